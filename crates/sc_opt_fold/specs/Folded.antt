-- Yardstick: to be compared with what it restates (docs/TRUST.md).
-- A typed tree in which each integer operator, cast and conversion whose operands are numbers is the number that it gives, where it gives one.
use Rattle.std.specs.Prelude.{ℕ, List, map, Option, Some, None, Result, Ok, Err, option_map, option_and_then}
use Rattle.sc_base.specs.declared.integer.Int.{Int}
use Rattle.sc_base.specs.declared.operator.Op.{Op}
use Rattle.sc_base.specs.declared.operator.Op.TheVariants as op
use Rattle.sc_base.specs.declared.report.Rule.{Rule}
use Rattle.sc_types.specs.declared.ctype.CType.{CType, out-CType}
use Rattle.sc_types.specs.declared.ctype.CType.TheOpen.{CType-F}
use Rattle.sc_types.specs.declared.ctype.Signature.{Signature}
use Rattle.sc_ops.specs.Numbers.{converted}
use Rattle.sc_ops.specs.Operators.{result_of}
use Rattle.sc_core.specs.declared.expression.UnaryOperator.{UnaryOperator}
use Rattle.sc_core.specs.declared.expression.UnaryOperator.TheVariants as unary
use Rattle.sc_core.specs.declared.expression.CoreExpr.{CoreExpr, out-CoreExpr, fold-CoreExpr}
use Rattle.sc_core.specs.declared.expression.CoreExpr.TheVariants as core
use Rattle.sc_core.specs.declared.expression.CoreExpr.TheOpen.{CoreExpr-F}
use Rattle.sc_core.specs.declared.statement.AutoInit.{AutoInit}
use Rattle.sc_core.specs.declared.statement.AutoInit.TheVariants as piece
use Rattle.sc_core.specs.declared.statement.CoreStmt.{CoreStmt, fold-CoreStmt}
use Rattle.sc_core.specs.declared.statement.CoreStmt.TheVariants as stmt
use Rattle.sc_core.specs.declared.statement.CoreStmt.TheOpen.{CoreStmt-F}
use Rattle.sc_core.specs.declared.module.Core.{Core}
use Rattle.sc_core.specs.declared.module.Fun.{Fun}

abbrev pub int_level : CType-F CType Signature → Option Int
int_level (CType-F.Int k c) = Some k
int_level _ = None

abbrev pub int_of : CType → Option Int
int_of t = int_level (out-CType t)

-- a number with its type
abbrev pub constant_level : CoreExpr-F CoreExpr → Option (Int × ℕ)
constant_level (CoreExpr-F.Number l t n) = option_map (λ k. (k, n)) (int_of t)
constant_level _ = None

abbrev pub constant : CoreExpr → Option (Int × ℕ)
constant e = constant_level (out-CoreExpr e)

-- what an operator gives where it breaks no rule
abbrev pub kept : Result ℕ Rule → Option ℕ
kept (Ok n) = Some n
kept (Err rule) = None

abbrev pub unary_number : UnaryOperator → Int → ℕ → Option ℕ
unary_number unary.Plus k n = Some n
unary_number unary.Minus k n = kept (result_of op.Neg k 0 n)
unary_number unary.Complement k n = kept (result_of op.Not k 0 n)
unary_number unary.Not k n = kept (result_of op.Eq k n 0)

abbrev pub unary_value : UnaryOperator → Option (Int × ℕ) → Option ℕ
unary_value o a = option_and_then (λ c. unary_number o c.0 c.1) a

abbrev pub binary_value : Op → Option (Int × ℕ) → Option (Int × ℕ) → Option ℕ
binary_value o a b = option_and_then (λ c. option_and_then (λ d. kept (result_of o c.0 c.1 d.1)) b) a

abbrev pub converted_value : CType → Option (Int × ℕ) → Option ℕ
converted_value t a = option_and_then (λ c. option_map (λ k. converted c.1 k) (int_of t)) a

-- the number, or the node where there is none
abbrev pub or_number : ℕ → CType → Option ℕ → CoreExpr → CoreExpr
or_number l t None e = e
or_number l t (Some n) e = core.Number l t n

abbrev pub unary_folded : ℕ → CType → UnaryOperator → CoreExpr → CoreExpr
unary_folded l t o a = or_number l t (unary_value o (constant a)) (core.Unary l t o a)

abbrev pub binary_folded : ℕ → CType → Op → CoreExpr → CoreExpr → CoreExpr
binary_folded l t o a b = or_number l t (binary_value o (constant a) (constant b)) (core.Binary l t o a b)

abbrev pub cast_folded : ℕ → CType → CoreExpr → CoreExpr
cast_folded l t a = or_number l t (converted_value t (constant a)) (core.Cast l t a)

abbrev pub convert_folded : ℕ → CType → CoreExpr → CoreExpr
convert_folded l t a = or_number l t (converted_value t (constant a)) (core.Convert l t a)

-- one node whose parts are folded
abbrev pub rebuilt : CoreExpr-F CoreExpr → CoreExpr
rebuilt (CoreExpr-F.Number l t n) = core.Number l t n
rebuilt (CoreExpr-F.Literal l t i) = core.Literal l t i
rebuilt (CoreExpr-F.Automatic l t b i) = core.Automatic l t b i
rebuilt (CoreExpr-F.Static l t key) = core.Static l t key
rebuilt (CoreExpr-F.Function l t key) = core.Function l t key
rebuilt (CoreExpr-F.Index l t size a b) = core.Index l t size a b
rebuilt (CoreExpr-F.Call l t f es) = core.Call l t f es
rebuilt (CoreExpr-F.Member l t n a) = core.Member l t n a
rebuilt (CoreExpr-F.Arrow l t n a) = core.Arrow l t n a
rebuilt (CoreExpr-F.Step l t s n a) = core.Step l t s n a
rebuilt (CoreExpr-F.Address l t a) = core.Address l t a
rebuilt (CoreExpr-F.Indirection l t a) = core.Indirection l t a
rebuilt (CoreExpr-F.Unary l t o a) = unary_folded l t o a
rebuilt (CoreExpr-F.Cast l t a) = cast_folded l t a
rebuilt (CoreExpr-F.Binary l t o a b) = binary_folded l t o a b
rebuilt (CoreExpr-F.Offset l t o size a b) = core.Offset l t o size a b
rebuilt (CoreExpr-F.Difference l t size a b) = core.Difference l t size a b
rebuilt (CoreExpr-F.Compare l t o a b) = core.Compare l t o a b
rebuilt (CoreExpr-F.And l t a b) = core.And l t a b
rebuilt (CoreExpr-F.Or l t a b) = core.Or l t a b
rebuilt (CoreExpr-F.Conditional l t a b d) = core.Conditional l t a b d
rebuilt (CoreExpr-F.Assign l t a b) = core.Assign l t a b
rebuilt (CoreExpr-F.AssignStructure l t size a b) = core.AssignStructure l t size a b
rebuilt (CoreExpr-F.Compound l t o k a b) = core.Compound l t o k a b
rebuilt (CoreExpr-F.CompoundOffset l t o size a b) = core.CompoundOffset l t o size a b
rebuilt (CoreExpr-F.Comma l t a b) = core.Comma l t a b
rebuilt (CoreExpr-F.Convert l t a) = convert_folded l t a

abbrev pub folded : CoreExpr → CoreExpr
folded = fold-CoreExpr CoreExpr rebuilt

-- the pieces of an initialiser
abbrev pub folded_piece : AutoInit → AutoInit
folded_piece (piece.Value n t e) = piece.Value n t (folded e)
folded_piece (piece.Text n bytes) = piece.Text n bytes
folded_piece (piece.Zero n count) = piece.Zero n count
folded_piece (piece.Structure size e) = piece.Structure size (folded e)

-- one statement whose parts are folded
abbrev pub rebuilt_statement : CoreStmt-F CoreStmt → CoreStmt
rebuilt_statement (CoreStmt-F.Block l b labels ss) = stmt.Block l b labels ss
rebuilt_statement (CoreStmt-F.Initialize l b i ps) = stmt.Initialize l b i (map folded_piece ps)
rebuilt_statement (CoreStmt-F.Empty l) = stmt.Empty l
rebuilt_statement (CoreStmt-F.Expression l e) = stmt.Expression l (folded e)
rebuilt_statement (CoreStmt-F.If l e first other) = stmt.If l (folded e) first other
rebuilt_statement (CoreStmt-F.Switch l e labels body) = stmt.Switch l (folded e) labels body
rebuilt_statement (CoreStmt-F.While l e body) = stmt.While l (folded e) body
rebuilt_statement (CoreStmt-F.Do l body line e) = stmt.Do l body line (folded e)
rebuilt_statement (CoreStmt-F.For l first e after body) =
    stmt.For l (option_map folded first) (option_map folded e) (option_map folded after) body
rebuilt_statement (CoreStmt-F.Case l s) = stmt.Case l s
rebuilt_statement (CoreStmt-F.Default l s) = stmt.Default l s
rebuilt_statement (CoreStmt-F.Label l s) = stmt.Label l s
rebuilt_statement (CoreStmt-F.Goto l label) = stmt.Goto l label
rebuilt_statement (CoreStmt-F.Continue l) = stmt.Continue l
rebuilt_statement (CoreStmt-F.Break l) = stmt.Break l
rebuilt_statement (CoreStmt-F.Return l e) = stmt.Return l (option_map folded e)

abbrev pub folded_statement : CoreStmt → CoreStmt
folded_statement = fold-CoreStmt CoreStmt rebuilt_statement

-- objects, slots and costs stay
abbrev pub folded_function : Fun → Fun
folded_function f = record f { body = folded_statement f.body }

abbrev pub folded_core : Core → Core
folded_core core = record core { funs = map folded_function core.funs }
