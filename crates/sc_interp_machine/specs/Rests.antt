-- Inside: plumbing, a representation, an invariant or a promise beside the claim (docs/TRUST.md).
-- The lists that a node of the tree has: a call's arguments, a block's statements, a declarator's pieces, a switch's labels.
use Rattle.std.specs.Prelude.{List, []}
use Rattle.sc_core.specs.declared.expression.CoreExpr.{CoreExpr}
use Rattle.sc_core.specs.declared.expression.CoreExpr.TheOpen.{CoreExpr-F}
use Rattle.sc_core.specs.declared.statement.AutoInit.{AutoInit}
use Rattle.sc_core.specs.declared.statement.CoreStmt.{CoreStmt}
use Rattle.sc_core.specs.declared.statement.CoreStmt.TheOpen.{CoreStmt-F}
use Rattle.sc_core.specs.declared.statement.SwitchLabel.{SwitchLabel}

abbrev pub arguments_in : CoreExpr-F CoreExpr → List CoreExpr
arguments_in (CoreExpr-F.Call l t f es) = es
arguments_in _ = []

abbrev pub statements_in : CoreStmt-F CoreStmt → List CoreStmt
statements_in (CoreStmt-F.Block l b ls ss) = ss
statements_in _ = []

abbrev pub pieces_in : CoreStmt-F CoreStmt → List AutoInit
pieces_in (CoreStmt-F.Initialize l b i pieces) = pieces
pieces_in _ = []

abbrev pub labels_in : CoreStmt-F CoreStmt → List SwitchLabel
labels_in (CoreStmt-F.Switch l e labels a) = labels
labels_in _ = []
