-- What a step of the innermost body in place comes to, from what the step of the body came to.
use Rattle.std.proofs.Common.{◌≡◌, List, [], ◌∷◌, Option, Some, Result, Ok, Err, refl, ap, sym, ◌∙◌, subst}
use Rattle.sc_meaning.specs.World.{World}
use Rattle.sc_meaning.specs.Outcomes.{Ending}
use Rattle.sc_meaning.specs.Versions.{Text, History}
use Rattle.sc_meaning.specs.Expressions.{Env}
use Rattle.sc_types.specs.declared.ctype.CType.{CType}
use Rattle.sc_meaning.specs.Values.{Value}
use Rattle.sc_interp_machine.specs.Machine as expr
use Rattle.sc_interp_machine.specs.Bodies as body
use Rattle.sc_interp_machine.specs.declared.pending.Single.TheVariants.{Back}
use Rattle.sc_interp_expr.specs.Advances.{CallsFrom}
use Rattle.sc_interp_machine.specs.Runs.{Active, Caller, State, Runs, Makes}
use Rattle.sc_interp_machine.specs.declared.pending.Item.{Item}
use Rattle.sc_interp_machine.specs.declared.pending.Item.TheVariants.{Alone, Right, Now, StoreRight, StoreNow, StructureRight, StructureNow, And, Or, Choice, Then, Callee, Argument}
use Rattle.sc_interp_machine.specs.declared.pending.Mode.{Mode}
use Rattle.sc_interp_machine.specs.declared.body.Use.{Use}
use Rattle.sc_interp_machine.specs.declared.body.Pending.{Pending}
use Rattle.sc_interp_machine.specs.declared.body.Doing.{Doing}
use Rattle.sc_interp_machine.specs.declared.body.Doing.TheVariants.{Within, Exec, Turn, Leave, Pieces, Labels}
use Rattle.sc_interp_access.specs.declared.stop.Stop.{Stop}
use Rattle.sc_interp_access.specs.Gives.{ending_of}
use Rattle.sc_interp_body.specs.Moves as moves
use Rattle.sc_interp.specs.declared.stepped.Shown.{Shown}
use Rattle.sc_interp.specs.declared.stepped.Shown.TheVariants.{Nothing, Line}
use Rattle.sc_interp.specs.declared.stepped.Ran.{Ran}
use Rattle.sc_interp.specs.declared.going.Going.{Going}
use Rattle.sc_interp.specs.declared.going.Going.TheVariants as going
use Rattle.sc_interp.specs.Shows.{line_shown, shown}
use Rattle.sc_interp.specs.Steady as steady
use Rattle.sc_interp.specs.Steps.{Is}
use Rattle.sc_interp.specs.Ran.{Sent, Sends, Leaves, RunsTo}

-- the same from a state that is another one
pub ran_there : (h : History) (texts : List Text) (s t : State) (r : Result Ran Stop) (g : Going) (cs : List Caller) (w : World) → s ≡ t → RunsTo (steady.advance h texts t) (shown h texts t) r g cs w → RunsTo (steady.advance h texts s) (shown h texts s) r g cs w
ran_there h texts s t r g cs w is = subst (λ s. RunsTo (steady.advance h texts s) (shown h texts s) r g cs w) (sym is)

module _ (b : body.Advanced) (ss : List Pending) (env : Env) (a : Active) (cs : List Caller) (w : World) where
  sent : (mode : Mode) (is : List Item) (u : Use) → moves.Sent b is u ss env w → Sent (steady.body_next b a cs) is u ss env a cs w × (Nothing ≡ line_shown b)
  sent mode (Argument t v es vs ∷ is) u p = (ap (λ b. steady.body_next b a cs) p, sym (ap line_shown p))
  sent mode [] u p = absurd p
  sent mode (Alone s ∷ is) u p = absurd p
  sent mode (Right k e ∷ is) u p = absurd p
  sent mode (Now k x ∷ is) u p = absurd p
  sent mode (StoreRight k e ∷ is) u p = absurd p
  sent mode (StoreNow k x ∷ is) u p = absurd p
  sent mode (StructureRight n e ∷ is) u p = absurd p
  sent mode (StructureNow n x ∷ is) u p = absurd p
  sent mode (And s t e ∷ is) u p = absurd p
  sent mode (Or s t e ∷ is) u p = absurd p
  sent mode (Choice t e f ∷ is) u p = absurd p
  sent mode (Then e ∷ is) u p = absurd p
  sent mode (Callee t es ∷ is) u p = absurd p

  -- a call goes out
  pub calls : (d : Doing) → moves.CallsFrom b d ss env w → Sends (steady.body_next b a cs) (going.Runs d ss env a) cs w × (Nothing ≡ line_shown b)
  calls (Within mode is u) p = sent mode is u p
  calls (Exec s) p = absurd p
  calls (Turn s) p = absurd p
  calls (Leave way) p = absurd p
  calls (Pieces v is) p = absurd p
  calls (Labels ls n default s) p = absurd p

  -- the body is left
  pub leaves : (d : Doing) → moves.LeavesBy b d w → Leaves (steady.body_next b a cs) (going.Runs d ss env a) cs w × (Nothing ≡ line_shown b)
  leaves (Leave way) p = (ap (λ b. steady.body_next b a cs) p, sym (ap line_shown p))
  leaves (Within mode is u) p = absurd p
  leaves (Exec s) p = absurd p
  leaves (Turn s) p = absurd p
  leaves (Pieces v is) p = absurd p
  leaves (Labels ls n default s) p = absurd p

-- a call that went out of the item on top
pub waits : (items : List Item) (u : Use) (ss : List Pending) (env : Env) (a : Active) (cs : List Caller) (w : World) (t : CType) (v : Value) (vs : List Value) (js : List Item) → ((step : expr.Advanced) (w : World) → CallsFrom step items w → step ≡ expr.CallsOut t v vs js w) → (s : State) → Sent s items u ss env a cs w → s ≡ Makes t v vs (record { items = js; user = u; stmts = ss; env = env; active = a }) cs w
waits (Argument t2 v2 es vs2 ∷ is) u ss env a cs w t v vs js out s p =
    p ∙ ap (λ e. steady.body_next (body.expr_next e u ss env) a cs) (out (expr.CallsOut t2 v2 vs2 (Alone Back ∷ is) w) w refl)
waits [] u ss env a cs w t v vs js out s p = absurd p
waits (Alone k ∷ is) u ss env a cs w t v vs js out s p = absurd p
waits (Right k e ∷ is) u ss env a cs w t v vs js out s p = absurd p
waits (Now k x ∷ is) u ss env a cs w t v vs js out s p = absurd p
waits (StoreRight k e ∷ is) u ss env a cs w t v vs js out s p = absurd p
waits (StoreNow k x ∷ is) u ss env a cs w t v vs js out s p = absurd p
waits (StructureRight n e ∷ is) u ss env a cs w t v vs js out s p = absurd p
waits (StructureNow n x ∷ is) u ss env a cs w t v vs js out s p = absurd p
waits (And k l e ∷ is) u ss env a cs w t v vs js out s p = absurd p
waits (Or k l e ∷ is) u ss env a cs w t v vs js out s p = absurd p
waits (Choice k e f ∷ is) u ss env a cs w t v vs js out s p = absurd p
waits (Then e ∷ is) u ss env a cs w t v vs js out s p = absurd p
waits (Callee k es ∷ is) u ss env a cs w t v vs js out s p = absurd p
