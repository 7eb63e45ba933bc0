-- Inside: plumbing, a representation, an invariant or a promise beside the claim (docs/TRUST.md).
-- How a step of the program on an expression, which changes the mode and what is pending in place, stands to the machine's step.
use Rattle.std.specs.Prelude.{◌≡◌, List, [], ◌∷◌, Option, Some, Result, Ok, Err}
use Rattle.sc_meaning.specs.World.{World}
use Rattle.sc_meaning.specs.Outcomes.{Outcome, Done, Ending}
use Rattle.sc_meaning.specs.Expressions.{Answer}
use Rattle.sc_interp_machine.specs.Machine.{Advanced, GoesOn, CallsOut, Gives, Breaks}
use Rattle.sc_interp_machine.specs.declared.pending.Item.{Item}
use Rattle.sc_interp_machine.specs.declared.pending.Item.TheVariants.{Alone, Argument}
use Rattle.sc_interp_machine.specs.declared.pending.Single.TheVariants.{Back}
use Rattle.sc_interp_machine.specs.declared.pending.Mode.{Mode}
use Rattle.sc_interp_machine.specs.declared.pending.Mode.TheVariants.{Eval, Give}
use Rattle.sc_interp_access.specs.declared.stop.Stop.{Stop}
use Rattle.sc_interp_access.specs.Gives.{ending_of, Stops}
use Rattle.sc_interp_expr.specs.declared.next.Went.{Went}
use Rattle.sc_interp_expr.specs.declared.next.Went.TheVariants as went

-- a call goes out by the item on top, which has all arguments, and awaits the call's answer from then on
abbrev pub CallsFrom : Advanced → List Item → World → Type 0
CallsFrom step (Argument t v es vs ∷ is) w = step ≡ CallsOut t v vs (Alone Back ∷ is) w
CallsFrom step _ w = ⊥

-- the whole expression has the answer that is given
abbrev pub EndsAt : Advanced → Mode → World → Type 0
EndsAt step (Give a) w = step ≡ Gives a w
EndsAt step (Eval e) w = ⊥

-- what a step left, with the mode, what is pending and the world
abbrev pub Left : Advanced → Went → Mode → List Item → World → Type 0
Left step went.On mode is w = step ≡ GoesOn mode is w
Left step went.Calls mode is w = CallsFrom step is w
Left step went.Ends mode is w = EndsAt step mode w

-- the program's step is this one; where no room was left, nothing is said
abbrev pub Advances : Advanced → Result Went Stop → Mode → List Item → World → Type 0
Advances step (Ok went) mode is w = Left step went mode is w
Advances step (Err s) mode is w = (e : Ending) → ending_of s w ≡ Some e → step ≡ Breaks e

-- an answer was put in place of the former one
abbrev pub Answers : {A : Type 0} → Outcome Answer → Result A Stop → Answer → World → Type 0
Answers out (Ok _) a w = out ≡ Done a w
Answers out (Err s) a w = Stops out s w

-- the answer of the whole was put in place of the former one, and is given to what is pending
abbrev pub Goes : {A : Type 0} → Advanced → Result A Stop → Answer → List Item → World → Type 0
Goes step (Ok _) a is w = step ≡ GoesOn (Give a) is w
Goes step (Err s) a is w = (e : Ending) → ending_of s w ≡ Some e → step ≡ Breaks e
