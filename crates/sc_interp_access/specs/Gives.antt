-- Inside: plumbing, a representation, an invariant or a promise beside the claim (docs/TRUST.md).
-- How an answer of the program stands to what the meaning says.
use Rattle.std.specs.Prelude.{◌≡◌, Result, Ok, Err, Option, Some, None}
use Rattle.sc_meaning.specs.World.{World}
use Rattle.sc_meaning.specs.Outcomes.{Outcome, Done, Over, Ending, Undefined, Exit, StackFull, BirthLimit}
use Rattle.sc_interp_access.specs.declared.stop.Stop.{Stop}
use Rattle.sc_interp_access.specs.declared.stop.Stop.TheVariants as stop

-- how the run ended in this world; where no room was left, nothing is said
abbrev pub ending_of : Stop → World → Option Ending
ending_of stop.NoRoom w = None
ending_of (stop.Undefined b) w = Some (Undefined b w)
ending_of (stop.Exit status) w = Some (Exit status w)
ending_of (stop.StackFull key) w = Some (StackFull key w)
ending_of stop.BirthLimit w = Some (BirthLimit w)

-- the run ended so
abbrev pub Stops : {A : Type 0} → Outcome A → Stop → World → Type 0
Stops out s w = (e : Ending) → ending_of s w ≡ Some e → out ≡ Over e

-- The answer is what the meaning gives, in the world that it leaves.
abbrev pub Gives : {A : Type 0} → Outcome A → Result A Stop → World → Type 0
Gives out (Ok a) w = out ≡ Done a w
Gives out (Err s) w = Stops out s w
