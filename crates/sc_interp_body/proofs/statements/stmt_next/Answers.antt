use Rattle.std.proofs.Common.{◌≡◌, ◌∙◌, ℕ, List, Result, ap, sym, subst}
use Rattle.sc_core.specs.declared.expression.CoreExpr.{CoreExpr}
use Rattle.sc_core.specs.declared.statement.CoreStmt.{CoreStmt, out-CoreStmt}
use Rattle.sc_core.specs.declared.statement.CoreStmt.TheOpen.{CoreStmt-F}
use Rattle.sc_core.specs.declared.statement.CoreStmt.TheVariants as statement
use Rattle.sc_core.specs.declared.statement.SwitchLabel.{SwitchLabel}
use Rattle.sc_meaning.specs.World.{World}
use Rattle.sc_meaning.specs.Expressions.{Env}
use Rattle.sc_interp_machine.specs.Bodies as machine
use Rattle.sc_interp_machine.specs.Rests.{labels_in}
use Rattle.sc_interp_machine.specs.declared.body.Pending.{Pending}
use Rattle.sc_interp_machine.specs.declared.body.Use.TheVariants as user
use Rattle.sc_interp_access.specs.declared.stop.Stop.{Stop}
use Rattle.sc_interp_body.specs.declared.moves.Next.{Next}
use Rattle.sc_interp_body.specs.Moves.{Moves}
use Rattle.sc_interp_body.proofs.statements.stmt_next.Goals as goal

-- the labels that a switch has
switched : (s : CoreStmt) (f : CoreStmt-F CoreStmt) (l : ℕ) (e : CoreExpr) (labels : List SwitchLabel) (a : CoreStmt) (ss : List Pending) (env : Env) (w : World) (r : Result Next Stop) → f ≡ CoreStmt-F.Switch l e labels a → Moves (machine.Lines l (machine.within e (user.Switch (labels_in f) a)) ss env w) r ss env w → Moves (machine.stmt_next s f ss env w) r ss env w
switched s f l e labels a ss env w r is =
    subst (λ f. Moves (machine.Lines l (machine.within e (user.Switch (labels_in f) a)) ss env w) r ss env w → Moves (machine.stmt_next s f ss env w) r ss env w) (sym is) (λ h. h)

pub returns-in-Switch : goal.returns-in-Switch
returns-in-Switch c =
    switched c.args.s (out-CoreStmt c.args.s) c.in-Switch.l c.in-Switch.e c.in-Switch.field-2 c.in-Switch.a c.args.stmts.now c.args.env.now c.args.world.now c.switch_next.result
    (ap out-CoreStmt (sym c.get.ensures ∙ c.in-Switch.is) ∙ statement.outs-Switch c.in-Switch.l c.in-Switch.e c.in-Switch.field-2 c.in-Switch.a)
    (c.switch_next.ensures c.args.stmts.now c.args.env.now)
