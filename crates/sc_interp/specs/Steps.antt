-- Inside: plumbing, a representation, an invariant or a promise beside the claim (docs/TRUST.md).
-- How a step of the program on a run stands to the machine's step.
use Rattle.std.specs.Prelude.{◌≡◌, List, [], ◌∷◌, Some, Result, Ok, Err, Bool, true, false}
use Rattle.sc_meaning.specs.World.{World}
use Rattle.sc_meaning.specs.Outcomes.{Ending}
use Rattle.sc_interp_machine.specs.Runs.{Caller, State, Runs, Makes, Answers, Ends}
use Rattle.sc_interp_access.specs.declared.stop.Stop.{Stop}
use Rattle.sc_interp_access.specs.Gives.{ending_of}
use Rattle.sc_interp.specs.declared.drive.Reached.{Reached}
use Rattle.sc_interp.specs.declared.drive.Reached.TheVariants as reached
use Rattle.sc_interp.specs.declared.going.Going.{Going}
use Rattle.sc_interp.specs.declared.going.Going.TheVariants as going

-- the program goes on with this state
abbrev pub Is : State → Going → List Caller → World → Type 0
Is s (going.Runs doing ss env a) cs w = s ≡ Runs doing ss env a cs w
Is s (going.Makes t v vs c) cs w = s ≡ Makes t v vs c cs w
Is s (going.Answers a) cs w = s ≡ Answers a cs w

-- the program's step is this one; where no room was left, nothing is said
abbrev pub Steps : State → Result Going Stop → List Caller → World → Type 0
Steps s (Ok g) cs w = Is s g cs w
Steps s (Err stop) cs w = (e : Ending) → ending_of stop w ≡ Some e → s ≡ Ends e

-- a run is over in this state: at the answer of its first call, or at its end
abbrev pub is_over : State → Bool
is_over (Runs doing ss env a cs w) = false
is_over (Makes t v vs c cs w) = false
is_over (Answers a [] w) = true
is_over (Answers a (c ∷ cs) w) = false
is_over (Ends e) = true

-- where a run was brought by these steps: to its answer, to its end, or not so far
abbrev pub Brings : State → Result Reached Stop → World → Type 0
Brings s (Ok (reached.Answer a)) w = s ≡ Answers a [] w
Brings s (Ok reached.Nowhere) w = is_over s ≡ false
Brings s (Err stop) w = (e : Ending) → ending_of stop w ≡ Some e → s ≡ Ends e
