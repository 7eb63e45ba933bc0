-- Inside: plumbing, a representation, an invariant or a promise beside the claim (docs/TRUST.md).
-- Where a run stands.
use Rattle.std.specs.Prelude.{◌≡◌, ℕ, Bool, true, false, List, Option, Some, None}
use Rattle.sc_meaning.specs.World.{World}
use Rattle.sc_meaning.specs.Outcomes.{Ending, world_at}
use Rattle.sc_interp_machine.specs.Runs.{Caller, State, Runs, Makes, Answers, Ends}
use Rattle.sc_interp.specs.declared.going.Going.{Going}
use Rattle.sc_interp.specs.declared.going.Going.TheVariants as going
use Rattle.sc_interp.specs.declared.stepped.Shown.{Shown}
use Rattle.sc_interp.specs.declared.stepped.Shown.TheVariants.{Nothing}
use Rattle.sc_interp_access.specs.declared.ended.Ended.{Ended}
use Rattle.sc_interp.specs.Ends.{end_of}
use Rattle.sc_world.specs.declared.count.Count.{Count}
use Rattle.sc_world.specs.declared.course.Course.{Course}
use Rattle.sc_world.specs.declared.course.Course.TheVariants.{On, Over}

-- the machine's state, what its last step showed and no go looked at yet, how many steps were done since the call of the entry, and how
-- many turns they took
pub record Standing : Type 0 where
  pub state : State
  pub shown : Shown
  pub steps : ℕ
  pub turns : ℕ

-- what a run does next, as the machine's state
abbrev pub state_of : Going → List Caller → World → State
state_of (going.Runs doing ss env a) cs w = Runs doing ss env a cs w
state_of (going.Makes t v vs c) cs w = Makes t v vs c cs w
state_of (going.Answers a) cs w = Answers a cs w

abbrev pub ended_so : Count → Option Ending → Option Standing
ended_so c None = None
ended_so c (Some e) = Some (record { state = Ends e; shown = Nothing; steps = c.steps; turns = c.turns })

-- nothing is known of a run for which no room was left
abbrev pub standing : Course → List Caller → World → Count → Option Standing
standing (On going shown) cs w c = Some (record { state = state_of going cs w; shown = shown; steps = c.steps; turns = c.turns })
standing (Over ended) cs w c = ended_so c (end_of ended w)

-- the world of a state
abbrev pub world_of : State → World
world_of (Runs doing ss env a cs w) = w
world_of (Makes t v vs c cs w) = w
world_of (Answers a cs w) = w
world_of (Ends e) = world_at e

abbrev pub world_in : Option Standing → Option World
world_in None = None
world_in (Some m) = Some (world_of m.state)

-- a run is over
abbrev pub has_ended : State → Bool
has_ended (Runs doing ss env a cs w) = false
has_ended (Makes t v vs c cs w) = false
has_ended (Answers a cs w) = false
has_ended (Ends e) = true

abbrev pub is_ended : Option Standing → Bool
is_ended None = true
is_ended (Some m) = has_ended m.state

-- and ended so
abbrev pub EndedSo : Option Standing → Ended → Type 0
EndedSo r ended = (w : World) × (c : Count) × (r ≡ ended_so c (end_of ended w))
