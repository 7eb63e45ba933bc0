-- No step inside an expression, and none with its answer, shows anything: of an instruction's steps only lines and entries do.
use Rattle.std.proofs.Common.{◌≡◌, Bool, true, false, refl, List, ◌∷◌, Option, Some, None}
use Rattle.sc_types.specs.declared.ctype.CType.{CType}
use Rattle.sc_meaning.specs.Values.{scalar_size}
use Rattle.sc_meaning.specs.World.{World, pass, Work}
use Rattle.sc_meaning.specs.Outcomes.{Outcome, Done, Over}
use Rattle.sc_meaning.specs.Accesses.{tested, set_at}
use Rattle.sc_meaning.specs.Violations.{bits}
use Rattle.sc_meaning.specs.Expressions.{Env, Answer, Plain, used}
use Rattle.sc_meaning.specs.Statements.{Normal, Returned, initial_structure}
use Rattle.sc_core.specs.declared.statement.CoreStmt.{CoreStmt}
use Rattle.sc_interp.specs.Shows.{line_shown}
use Rattle.sc_interp.specs.declared.stepped.Shown.TheVariants.{Nothing}
use Rattle.sc_interp_machine.specs.Machine as expr
use Rattle.sc_interp_machine.specs.Bodies as body
use Rattle.sc_interp_machine.specs.declared.pending.Mode.{Mode}
use Rattle.sc_interp_machine.specs.declared.pending.Item.{Item}
use Rattle.sc_interp_machine.specs.declared.body.Use.{Use}
use Rattle.sc_interp_machine.specs.declared.body.Use.TheVariants as uses
use Rattle.sc_interp_machine.specs.declared.body.Pending.{Pending}
use Rattle.sc_interp_machine.specs.declared.body.Pending.TheVariants as pending
use Rattle.sc_interp_machine.specs.declared.body.Doing.TheVariants as doing

pub none_then : {A : Type 0} (o : Outcome A) (go : A → World → body.Advanced) → ((a : A) (w : World) → line_shown (go a w) ≡ Nothing) → line_shown (body.then_goes o go) ≡ Nothing
none_then (Done a w) go p = p a w
none_then (Over e) go p = refl

pub none_whether : (b : Bool) (f g : World → body.Advanced) (w : World) → ((w : World) → line_shown (f w) ≡ Nothing) → ((w : World) → line_shown (g w) ≡ Nothing) → line_shown (body.whether b f g w) ≡ Nothing
none_whether true f g w p q = p w
none_whether false f g w p q = q w

module _ (ss : List Pending) (env : Env) where
  none_tests : (t : CType) (a : Answer) (f g : World → body.Advanced) (w : World) → ((w : World) → line_shown (f w) ≡ Nothing) → ((w : World) → line_shown (g w) ≡ Nothing) → line_shown (body.tests t a f g w) ≡ Nothing
  none_tests t a f g w p q =
      none_then (used a w) (λ v w. body.then_goes (tested t v w) (λ yes w. body.whether yes f g w))
      (λ v w. none_then (tested t v w) (λ yes w. body.whether yes f g w) (λ yes w. none_whether yes f g w p q))

  none_optional : (r : Option CoreStmt) (w : World) → line_shown (body.optional_next r (pending.End ∷ ss) env w) ≡ Nothing
  none_optional None w = refl
  none_optional (Some s) w = refl

  use_silent : (u : Use) (a : Answer) (w : World) → line_shown (body.use_next u a ss env w) ≡ Nothing
  use_silent uses.Discard a w = refl
  use_silent (uses.Turns s) a w = refl
  use_silent uses.Return a w = none_then (used a w) (λ v w. body.ends (Returned (Plain v)) ss env w) (λ v w. refl)
  use_silent (uses.If t q r) a w = none_tests t a (body.execs q (pending.End ∷ ss) env) (body.optional_next r (pending.End ∷ ss) env) w (λ w. refl) (none_optional r)
  use_silent (uses.While t s q) a w = none_tests t a (body.execs q (pending.Again s ∷ ss) env) (body.ends Normal ss env) w (λ w. refl) (λ w. refl)
  use_silent (uses.Repeat t s) a w = none_tests t a (body.turns s ss env) (body.ends Normal ss env) w (λ w. refl) (λ w. refl)
  use_silent (uses.For t s x q) a w = none_tests t a (body.execs q (pending.Third x s ∷ ss) env) (body.ends Normal ss env) w (λ w. refl) (λ w. refl)
  use_silent (uses.Switch labels s) a w = none_then (used a w) (λ v w. body.GoesOn (doing.Labels labels (bits v) None s) ss env w) (λ v w. refl)
  use_silent (uses.Set p at t is) a w =
      none_then (used a w) (λ v w. body.GoesOn (doing.Pieces p is) ss env (pass (Work (scalar_size t)) (set_at p at (scalar_size t) v w))) (λ v w. refl)
  use_silent (uses.Copy p size is) a w = none_then (initial_structure p size a w) (λ _ w. body.GoesOn (doing.Pieces p is) ss env w) (λ v w. refl)

  given_silent : (u : Use) (x : expr.Advanced) → line_shown (body.expr_next x u ss env) ≡ Nothing
  given_silent u (expr.GoesOn mode is w) = refl
  given_silent u (expr.CallsOut t v vs is w) = refl
  given_silent u (expr.Gives a w) = use_silent u a w
  given_silent u (expr.Breaks e) = refl

  pub within_silent : (mode : Mode) (is : List Item) (u : Use) (w : World) → line_shown (body.advance (doing.Within mode is u) ss env w) ≡ Nothing
  within_silent mode is u w = given_silent u (expr.advance env mode is w)
