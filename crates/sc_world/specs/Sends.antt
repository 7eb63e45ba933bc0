-- Yardstick: to be compared with what it restates (docs/TRUST.md).
-- What a go sends while it goes on.
use Rattle.std.specs.Prelude.{◌≢◌, ◌<◌, ◌+◌, ℕ, List, [], length, Option, Some, None}
use Rattle.std.specs.Io.KnownBytes.{Appends}
use Rattle.sc_meaning.specs.Versions.{Text}
use Rattle.sc_interp_world.specs.Outputs.{output}
use Rattle.sc_words.specs.declared.stop.StopAt.{StopAt}
use Rattle.sc_words.specs.declared.stop.Walk.{Walk}
use Rattle.sc_world.specs.declared.halt.Halt.{Halt}
use Rattle.sc_world.specs.declared.halt.Halt.TheVariants.{Ended}
use Rattle.sc_world.specs.Standing.{Standing, world_of}
use Rattle.sc_world.specs.Goes.{GoneBy, want_of}
use Rattle.sc_world.specs.Posts.{Posted, PostedSome}
use Rattle.sc_world.specs.Wants.{Want}

-- all that the program wrote up to there
abbrev pub written : Standing → List ℕ
written m = output (world_of m.state).trail

-- some go from there leaves a run of which this holds
abbrev pub SomeGo : List Text → Want → Standing → (Standing → Type 0) → Type 0
SomeGo texts want m P = (halt : Halt) × (last : Standing) × GoneBy texts want halt last m × P last

-- The sink gained the first of what the program writes in a go.
abbrev pub SendsFirst : Option (List ℕ) → Option (List ℕ) → Want → List Text → Standing → Type 0
SendsFirst old new want texts m = SomeGo texts want m (λ last. PostedSome old new (length (written m)) (written last))

-- A go posted what the program wrote in it, up to some place. Where no room was left for the run, nothing else is known of it.
abbrev pub SendsTo : Option (List ℕ) → Option (List ℕ) → Want → List Text → Standing → ℕ → Option Standing → Type 0
SendsTo old new want texts m sent None = SomeGo texts want m (λ last. Posted old new (length (written m)) sent (written last))
SendsTo old new want texts m sent (Some n) = Posted old new (length (written m)) sent (written n)

-- the same of a run; one for which no room was left before writes nothing
abbrev pub Sends : Option (List ℕ) → Option (List ℕ) → List Text → List StopAt → Walk → ℕ → Option Standing → ℕ → Option Standing → Type 0
Sends old new texts stops walk turns None sent after = Appends old new []
Sends old new texts stops walk turns (Some m) sent after = SendsTo old new (want_of stops walk turns m) texts m sent after

abbrev pub SendsSome : Option (List ℕ) → Option (List ℕ) → List Text → List StopAt → Walk → ℕ → Option Standing → Type 0
SendsSome old new texts stops walk turns None = Appends old new []
SendsSome old new texts stops walk turns (Some m) = SendsFirst old new (want_of stops walk turns m) texts m

-- where a go halts before the run is over, fewer bytes wait than are posted
abbrev pub LeavesFew : Halt → ℕ → Option Standing → Type 0
LeavesFew halt sent None = Unit {0}
LeavesFew halt sent (Some n) = halt ≢ Ended → length (written n) < sent + 4096
