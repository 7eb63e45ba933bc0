-- Yardstick: to be compared with what it restates (docs/TRUST.md).
-- A go: the moves up to the first place that halts it, or where the turns were taken.
use Rattle.std.specs.Prelude.{◌≡◌, ℕ, zero, suc, ◌+◌, ◌≤◌, List, [], ◌∷◌, Option, Some, None}
use Rattle.sc_base.specs.declared.key.Key.{Key}
use Rattle.sc_meaning.specs.World.{World, GoesOut, ComesBack, pass}
use Rattle.sc_meaning.specs.Outcomes.{Exit}
use Rattle.sc_meaning.specs.Versions.{Text, callee_of}
use Rattle.sc_meaning.specs.Changes.{statics_born}
use Rattle.sc_meaning.specs.Behaviour.{first_world, status_of}
use Rattle.sc_interp_machine.specs.Runs.{Caller, State, Runs, Makes, Answers, Ends, then_goes}
use Rattle.sc_interp.specs.declared.stepped.Shown.{Shown}
use Rattle.sc_interp.specs.declared.stepped.Shown.TheVariants.{Nothing}
use Rattle.sc_interp.specs.Steady.{alone, callee_next, advance}
use Rattle.sc_interp.specs.Shows.{shown, entry_shown}
use Rattle.sc_interp.specs.Ends.{start_of}
use Rattle.sc_words.specs.declared.stop.StopAt.{StopAt}
use Rattle.sc_words.specs.declared.stop.Walk.{Walk}
use Rattle.sc_world.specs.declared.halt.Halt.{Halt}
use Rattle.sc_world.specs.declared.halt.Halt.TheVariants.{Ended}
use Rattle.sc_world.specs.Standing.{Standing, world_of}
use Rattle.sc_world.specs.Wants.{Want, rests}
use Rattle.sc_world.specs.Moves.{Silent, moved}
use Rattle.sc_world.specs.Costs.{cost}

-- one step, with its cost
abbrev pub moved_on : Standing → State → Shown → Standing
moved_on m next now = record { state = next; shown = now; steps = m.steps + 1; turns = m.turns + cost m.state next }

abbrev pub stepped : List Text → Standing → Standing
stepped texts m = moved_on m (advance (alone texts) texts m.state) (shown (alone texts) texts m.state)

-- so many steps one after another, wherever a go would halt
abbrev pub after : ℕ → List Text → Standing → Standing
after zero texts m = m
after (suc k) texts m = after k texts (stepped texts m)

-- what was shown is looked at once
abbrev pub seen : Standing → Standing
seen m = record m { shown = Nothing }

-- A go from a place halts for this and leaves the run there: it rests where it stands, or goes on with a move.
pub data GoneBy (texts : List Text) (want : Want) (halt : Halt) (last : Standing) : Standing → Type 0 where
  rests_here : (m : Standing) → rests want m ≡ Some halt → last ≡ seen m → GoneBy texts want halt last m
  moves_on : (m : Standing) (k : ℕ) → k ≤ 7 → rests want m ≡ None → Silent k texts m.state → GoneBy texts want halt last (moved k texts m) → GoneBy texts want halt last m

-- where the entry came back, the run ends with its status
abbrev pub with_status : State → State
with_status (Runs doing ss env a cs w) = Runs doing ss env a cs w
with_status (Makes t v vs c cs w) = Makes t v vs c cs w
with_status (Answers a [] w) = Ends (Exit (status_of a) (pass ComesBack w))
with_status (Answers a (c ∷ cs) w) = Answers a (c ∷ cs) w
with_status (Ends e) = Ends e

abbrev pub closed : Standing → Standing
closed m = record m { state = with_status m.state }

-- where it rests the run is left so; where no room is left for the run, it is over, and nothing else is said
abbrev pub Closes : Halt → Standing → Halt → Option Standing → Type 0
Closes halt last left None = left ≡ Ended
Closes halt last left (Some n) = (left ≡ halt) × (closed last ≡ n)

-- a go from a place leaves this; where no room is left for the run, it is over, and nothing else is said
abbrev pub Leaves : List Text → Want → Standing → Halt → Option Standing → Type 0
Leaves texts want m halt None = halt ≡ Ended
Leaves texts want m halt (Some n) = (last : Standing) × GoneBy texts want halt last m × (closed last ≡ n)

abbrev pub want_of : List StopAt → Walk → ℕ → Standing → Want
want_of stops walk turns m = record { stops = stops; walk = walk; since = (world_of m.state).enters; turns = turns; before = m.turns }

-- a go of so many turns, from one place to another
abbrev pub Goes : List Text → List StopAt → Walk → ℕ → Option Standing → Halt → Option Standing → Type 0
Goes texts stops walk turns None halt new = (halt ≡ Ended) × (new ≡ None)
Goes texts stops walk turns (Some m) halt new = Leaves texts (want_of stops walk turns m) m halt new

-- the state behind the births, where the call of the entry went out
abbrev pub entry_next : List Text → Key → List Caller → World → State
entry_next texts key cs born = callee_next (alone texts) key [] (callee_of texts key) cs (pass GoesOut born)

abbrev pub first_from : List Text → Key → List Caller → World → State
first_from texts key cs w = then_goes (statics_born texts w) (λ _ born. entry_next texts key cs born)

abbrev pub first_standing : State → Standing
first_standing s = record { state = s; shown = entry_shown s; steps = 0; turns = 0 }

-- a run of these texts from its start on, with this entry
abbrev pub started : List Text → Key → ℕ → ℕ → List ℕ → Standing
started texts key stack heap input = first_standing (first_from texts key [] (first_world (start_of texts key stack heap input)))
