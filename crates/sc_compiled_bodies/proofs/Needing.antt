-- What an expression and a statement need, by what their parts do.
use Rattle.std.proofs.Common.{◌≡◌, ap, ◌∙◌}
use Rattle.sc_core.specs.declared.expression.CoreExpr.{CoreExpr, fold_out-CoreExpr, map-CoreExpr, out-CoreExpr}
use Rattle.sc_core.specs.declared.expression.CoreExpr.TheOpen.{CoreExpr-F}
use Rattle.sc_core.specs.declared.statement.CoreStmt.{CoreStmt, fold_out-CoreStmt, map-CoreStmt, out-CoreStmt}
use Rattle.sc_core.specs.declared.statement.CoreStmt.TheOpen.{CoreStmt-F}
use Rattle.sc_core_needs.specs.Needs.{need, need_layer, need_of_statement, statement_layer}
use Rattle.sc_core_needs.specs.declared.needs.Need.{Need}

pub need_is : (e : CoreExpr) (x : CoreExpr-F CoreExpr) → out-CoreExpr e ≡ x → need e ≡ need_layer (map-CoreExpr CoreExpr Need need x)
need_is e x is = fold_out-CoreExpr Need need_layer e ∙ ap (λ y. need_layer (map-CoreExpr CoreExpr Need need y)) is

pub statement_needs : (s : CoreStmt) (x : CoreStmt-F CoreStmt) → out-CoreStmt s ≡ x → need_of_statement s ≡ statement_layer (map-CoreStmt CoreStmt Need need_of_statement x)
statement_needs s x is = fold_out-CoreStmt Need statement_layer s ∙ ap (λ y. statement_layer (map-CoreStmt CoreStmt Need need_of_statement y)) is
