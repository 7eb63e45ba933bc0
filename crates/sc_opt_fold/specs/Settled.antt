-- Yardstick: to be compared with what it restates (docs/TRUST.md).
-- Trees in which no integer operator, cast or conversion has only numbers as operands and gives one.
use Rattle.std.specs.Prelude.{ℕ, Bool, true, ◌&&◌, is_none, List, map, Option, Some, None, option_map}
use Rattle.std.specs.List.{list_all}
use Rattle.sc_base.specs.declared.integer.Int.{Int}
use Rattle.sc_core.specs.declared.expression.CoreExpr.{CoreExpr, fold-CoreExpr}
use Rattle.sc_core.specs.declared.expression.CoreExpr.TheOpen.{CoreExpr-F}
use Rattle.sc_core.specs.declared.statement.AutoInit.{AutoInit}
use Rattle.sc_core.specs.declared.statement.AutoInit.TheVariants as piece
use Rattle.sc_core.specs.declared.statement.CoreStmt.{CoreStmt, fold-CoreStmt}
use Rattle.sc_core.specs.declared.statement.CoreStmt.TheOpen.{CoreStmt-F}
use Rattle.sc_core.specs.declared.module.Core.{Core}
use Rattle.sc_core.specs.declared.module.Fun.{Fun}
use Rattle.sc_opt_fold.specs.Folded.{int_of, unary_value, binary_value, converted_value}

-- whether a tree is settled, and the number that it is
abbrev pub Seen : Type 0
Seen = Bool × Option (Int × ℕ)

abbrev pub seen : Bool → Seen
seen b = (b, None)

abbrev pub stays : Option ℕ → Bool
stays value = is_none value

abbrev pub settled_layer : CoreExpr-F Seen → Seen
settled_layer (CoreExpr-F.Number l t n) = (true, option_map (λ k. (k, n)) (int_of t))
settled_layer (CoreExpr-F.Literal l t i) = seen true
settled_layer (CoreExpr-F.Automatic l t b i) = seen true
settled_layer (CoreExpr-F.Static l t key) = seen true
settled_layer (CoreExpr-F.Function l t key) = seen true
settled_layer (CoreExpr-F.Index l t n a b) = seen (a.0 && b.0)
settled_layer (CoreExpr-F.Call l t f es) = seen (f.0 && list_all (λ (e : Seen). e.0) es)
settled_layer (CoreExpr-F.Member l t n a) = seen a.0
settled_layer (CoreExpr-F.Arrow l t n a) = seen a.0
settled_layer (CoreExpr-F.Step l t s n a) = seen a.0
settled_layer (CoreExpr-F.Address l t a) = seen a.0
settled_layer (CoreExpr-F.Indirection l t a) = seen a.0
settled_layer (CoreExpr-F.Unary l t o a) = seen (a.0 && stays (unary_value o a.1))
settled_layer (CoreExpr-F.Cast l t a) = seen (a.0 && stays (converted_value t a.1))
settled_layer (CoreExpr-F.Binary l t o a b) = seen (a.0 && (b.0 && stays (binary_value o a.1 b.1)))
settled_layer (CoreExpr-F.Offset l t o n a b) = seen (a.0 && b.0)
settled_layer (CoreExpr-F.Difference l t n a b) = seen (a.0 && b.0)
settled_layer (CoreExpr-F.Compare l t o a b) = seen (a.0 && b.0)
settled_layer (CoreExpr-F.And l t a b) = seen (a.0 && b.0)
settled_layer (CoreExpr-F.Or l t a b) = seen (a.0 && b.0)
settled_layer (CoreExpr-F.Conditional l t a b d) = seen (a.0 && (b.0 && d.0))
settled_layer (CoreExpr-F.Assign l t a b) = seen (a.0 && b.0)
settled_layer (CoreExpr-F.AssignStructure l t n a b) = seen (a.0 && b.0)
settled_layer (CoreExpr-F.Compound l t o k a b) = seen (a.0 && b.0)
settled_layer (CoreExpr-F.CompoundOffset l t o n a b) = seen (a.0 && b.0)
settled_layer (CoreExpr-F.Comma l t a b) = seen (a.0 && b.0)
settled_layer (CoreExpr-F.Convert l t a) = seen (a.0 && stays (converted_value t a.1))

abbrev pub seen_of : CoreExpr → Seen
seen_of = fold-CoreExpr Seen settled_layer

abbrev pub is_settled_expression : CoreExpr → Bool
is_settled_expression e = (seen_of e).0

abbrev pub is_settled_option : Option CoreExpr → Bool
is_settled_option None = true
is_settled_option (Some e) = is_settled_expression e

abbrev pub is_settled_piece : AutoInit → Bool
is_settled_piece (piece.Value n t e) = is_settled_expression e
is_settled_piece (piece.Text n bytes) = true
is_settled_piece (piece.Zero n count) = true
is_settled_piece (piece.Structure size e) = is_settled_expression e

abbrev pub or_true : Option Bool → Bool
or_true None = true
or_true (Some b) = b

abbrev pub statement_layer : CoreStmt-F Bool → Bool
statement_layer (CoreStmt-F.Block l b labels ss) = list_all (λ (s : Bool). s) ss
statement_layer (CoreStmt-F.Initialize l b i ps) = list_all is_settled_piece ps
statement_layer (CoreStmt-F.Empty l) = true
statement_layer (CoreStmt-F.Expression l e) = is_settled_expression e
statement_layer (CoreStmt-F.If l e first other) = is_settled_expression e && (first && or_true other)
statement_layer (CoreStmt-F.Switch l e labels body) = is_settled_expression e && body
statement_layer (CoreStmt-F.While l e body) = is_settled_expression e && body
statement_layer (CoreStmt-F.Do l body line e) = body && is_settled_expression e
statement_layer (CoreStmt-F.For l first e after body) = is_settled_option first && (is_settled_option e && (is_settled_option after && body))
statement_layer (CoreStmt-F.Case l s) = s
statement_layer (CoreStmt-F.Default l s) = s
statement_layer (CoreStmt-F.Label l s) = s
statement_layer (CoreStmt-F.Goto l label) = true
statement_layer (CoreStmt-F.Continue l) = true
statement_layer (CoreStmt-F.Break l) = true
statement_layer (CoreStmt-F.Return l e) = is_settled_option e

abbrev pub is_settled_statement : CoreStmt → Bool
is_settled_statement = fold-CoreStmt Bool statement_layer

abbrev pub is_settled_function : Fun → Bool
is_settled_function f = is_settled_statement f.body

abbrev pub is_settled : Core → Bool
is_settled core = list_all is_settled_function core.funs
