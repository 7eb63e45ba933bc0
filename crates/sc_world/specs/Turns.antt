-- Inside: plumbing, a representation, an invariant or a promise beside the claim (docs/TRUST.md).
-- How the program's turns stand to the machine's.
use Rattle.std.specs.Prelude.{◌≡◌, ◌<◌, ◌+◌, ℕ, List, length, Option, Some, Result, Ok, Err}
use Rattle.sc_meaning.specs.World.{World, work}
use Rattle.sc_meaning.specs.Outcomes.{Ending, world_at}
use Rattle.sc_meaning.specs.Versions.{Text}
use Rattle.sc_interp_machine.specs.Runs.{Caller, State, Ends}
use Rattle.sc_interp.specs.declared.going.Going.{Going}
use Rattle.sc_interp.specs.declared.stepped.Shown.{Shown}
use Rattle.sc_interp.specs.declared.stepped.Shown.TheVariants.{Nothing}
use Rattle.sc_interp_access.specs.declared.stop.Stop.{Stop}
use Rattle.sc_interp_access.specs.Gives.{ending_of}
use Rattle.sc_interp_world.specs.Outputs.{bytes_moved, output}
use Rattle.sc_world.specs.declared.cost.Before.{Before}
use Rattle.sc_world.specs.declared.count.Count.{Count}
use Rattle.sc_world.specs.declared.halt.Halt.{Halt}
use Rattle.sc_world.specs.declared.halt.Halt.TheVariants.{Ended}
use Rattle.sc_world.specs.declared.post.Unsent.{Unsent}
use Rattle.sc_world.specs.declared.turn.Turned.{Turned}
use Rattle.sc_world.specs.declared.turn.Turned.TheVariants as turned
use Rattle.sc_world.specs.Standing.{Standing, ended_so, state_of, world_of}
use Rattle.sc_world.specs.Costs.{is_call}
use Rattle.sc_world.specs.Goes.{Closes, GoneBy}
use Rattle.sc_world.specs.Posts.{Posted, PostedSome}
use Rattle.sc_world.specs.Sends.{SomeGo, written}
use Rattle.sc_world.specs.Wants.{Want}

abbrev pub standing_at : State → Shown → Count → Standing
standing_at s shown c = record { state = s; shown = shown; steps = c.steps; turns = c.turns }

-- so a run stood before a step
abbrev pub IsBefore : Before → State → Type 0
IsBefore b s = (b.calls ≡ is_call s) × (b.work ≡ work (world_of s).trail) × (b.moved ≡ bytes_moved (world_of s).trail)

-- one step brings a run there, or to its end; where no room was left, nothing is said
abbrev pub Onward : Standing → Result Shown Stop → Going → List Caller → World → Count → Type 0
Onward m (Ok now) g cs w c = m ≡ standing_at (state_of g cs w) now c
Onward m (Err stop) g cs w c = (e : Ending) → ending_of stop w ≡ Some e → m ≡ standing_at (Ends e) Nothing c

-- where a go from a place brings a run
abbrev pub Comes : List Text → Want → Standing → Turned → Going → List Caller → World → Count → Type 0
Comes texts want m (turned.Rests halt) g cs w c = GoneBy texts want halt (standing_at (state_of g cs w) Nothing c) m
Comes texts want m (turned.Over stop) g cs w c = (e : Ending) → ending_of stop w ≡ Some e → GoneBy texts want Ended (standing_at (Ends e) Nothing c) m

-- and what is left of the run then
abbrev pub IsLeft : Turned → Going → List Caller → World → Count → Halt → Option Standing → Type 0
IsLeft (turned.Rests halt) g cs w c left after = Closes halt (standing_at (state_of g cs w) Nothing c) left after
IsLeft (turned.Over stop) g cs w c left after = (left ≡ Ended) × (after ≡ ended_so c (ending_of stop w))

-- What was posted of it, as far as the second place: of all that the program wrote. Where no room was left for the run, that is known of
-- some go; where it could not be written, some of it was posted.
abbrev pub PostsTo : Option (List ℕ) → Option (List ℕ) → ℕ → ℕ → Want → List Text → Standing → World → Result Turned Unsent → Type 0
PostsTo old new from to want texts m w (Ok (turned.Rests halt)) = Posted old new from to (output w.trail)
PostsTo old new from to want texts m w (Ok (turned.Over stop)) =
    ((e : Ending) → ending_of stop w ≡ Some e → Posted old new from to (output (world_at e).trail)) × SomeGo texts want m (λ last. Posted old new from to (written last))
PostsTo old new from to want texts m w (Err _) = SomeGo texts want m (λ last. PostedSome old new from (written last))

-- Behind all the turns but one in which the run ended, fewer bytes wait than are posted.
abbrev pub WaitsFew : Turned → List ℕ → ℕ → Type 0
WaitsFew (turned.Rests halt) bytes sent = length bytes < sent + 4096
WaitsFew (turned.Over stop) bytes sent = Unit {0}
