-- Yardstick: to be compared with what it restates (docs/TRUST.md).
-- Integer constant expressions (ANSI 3.4) and null pointer constants (3.2.2.3), on typed trees.
use Rattle.std.specs.Prelude.{ℕ, ◌==◌, Bool, true, false, ◌&&◌, ◌||◌, Result, Ok, Err}
use Rattle.sc_base.specs.declared.integer.Int.{Int}
use Rattle.sc_base.specs.declared.integer.Int.TheVariants as i
use Rattle.sc_base.specs.declared.operator.Op.{Op}
use Rattle.sc_base.specs.declared.operator.Op.TheVariants as op
use Rattle.sc_base.specs.declared.report.Rule.{Rule}
use Rattle.sc_types.specs.declared.ctype.CType.{out-CType}
use Rattle.sc_types.specs.declared.ctype.CType.TheOpen.{CType-F}
use Rattle.sc_ops.specs.Numbers.{converted}
use Rattle.sc_ops.specs.Operators.{result_of}
use Rattle.sc_core.specs.declared.expression.UnaryOperator.{UnaryOperator}
use Rattle.sc_core.specs.declared.expression.UnaryOperator.TheVariants as u
use Rattle.sc_core.specs.declared.expression.CoreExpr.{CoreExpr, out-CoreExpr, fold-CoreExpr}
use Rattle.sc_core.specs.declared.expression.CoreExpr.TheOpen.{CoreExpr-F}
use Rattle.sc_check_operand.specs.declared.folding.Folded.{Folded}
use Rattle.sc_check_operand.specs.declared.folding.Folded.TheVariants as f
use Rattle.sc_check_operand.specs.declared.fault.Cause.TheVariants as cause
use Rattle.sc_check_operand.specs.Steps.{Checked, refused}
use Rattle.sc_check_operand.specs.Types.{Level}

-- a number of this type; only integer types have them here
abbrev pub number_level : Level → ℕ → Folded
number_level (CType-F.Int k c) n = f.Value n k
number_level _ n = f.Variable

-- the result of an operator in the type k
abbrev pub applied : Int → Result ℕ Rule → Folded
applied k (Ok n) = f.Value n k
applied k (Err rule) = f.Undefined

abbrev pub applied_level : Level → Result ℕ Rule → Folded
applied_level (CType-F.Int k c) outcome = applied k outcome
applied_level _ outcome = f.Variable

-- a conversion to this type, written or not
abbrev pub converted_level : Level → Folded → Folded
converted_level (CType-F.Int k c) (f.Value n j) = f.Value (converted n k) k
converted_level (CType-F.Int k c) a = a
converted_level _ a = f.Variable

abbrev pub unary_by : UnaryOperator → Int → ℕ → Folded
unary_by u.Plus k n = f.Value n k
unary_by u.Minus k n = applied k (result_of op.Neg k 0 n)
unary_by u.Complement k n = applied k (result_of op.Not k 0 n)
unary_by u.Not k n = applied i.Int (result_of op.Eq k n 0)

abbrev pub unary : UnaryOperator → Folded → Folded
unary o (f.Value n k) = unary_by o k n
unary o f.Undefined = f.Undefined
unary o f.Variable = f.Variable

-- both operands, then the operator in the type of the left one
abbrev pub binary : Level → Op → Folded → Folded → Folded
binary level o f.Variable b = f.Variable
binary level o a f.Variable = f.Variable
binary level o f.Undefined b = f.Undefined
binary level o a f.Undefined = f.Undefined
binary level o (f.Value n j) (f.Value m k) = applied_level level (result_of o j n m)

abbrev pub truth : Folded → Folded
truth (f.Value n k) = applied i.Int (result_of op.Truth k n 0)
truth f.Undefined = f.Undefined
truth f.Variable = f.Variable

abbrev pub is_zero : Folded → Bool
is_zero (f.Value n k) = n == 0
is_zero _ = false

-- where the operand before it does not decide, the second is not evaluated (3.3.13 to 3.3.15)
abbrev pub decided : Bool → Folded → Folded → Folded
decided true a b = a
decided false a b = b

-- `a && b`
abbrev pub both : Folded → Folded → Folded
both f.Variable b = f.Variable
both a f.Variable = f.Variable
both f.Undefined b = f.Undefined
both (f.Value n k) b = decided (n == 0) (f.Value 0 i.Int) (truth b)

-- `a || b`
abbrev pub either : Folded → Folded → Folded
either f.Variable b = f.Variable
either a f.Variable = f.Variable
either f.Undefined b = f.Undefined
either (f.Value n k) b = decided (n == 0) (truth b) (f.Value 1 i.Int)

-- `a ? b : d`
abbrev pub chosen : Folded → Folded → Folded → Folded
chosen f.Variable b d = f.Variable
chosen a f.Variable d = f.Variable
chosen a b f.Variable = f.Variable
chosen f.Undefined b d = f.Undefined
chosen (f.Value n k) b d = decided (n == 0) d b

abbrev pub integer_level : Level → Folded → Folded
integer_level (CType-F.Int k c) a = a
integer_level _ a = f.Variable

abbrev pub folded_layer : CoreExpr-F Folded → Folded
folded_layer (CoreExpr-F.Number l of n) = number_level (out-CType of) n
folded_layer (CoreExpr-F.Cast l of a) = converted_level (out-CType of) a
folded_layer (CoreExpr-F.Convert l of a) = converted_level (out-CType of) a
folded_layer (CoreExpr-F.Unary l of o a) = unary o a
folded_layer (CoreExpr-F.Binary l of o a b) = binary (out-CType of) o a b
folded_layer (CoreExpr-F.And l of a b) = both a b
folded_layer (CoreExpr-F.Or l of a b) = either a b
folded_layer (CoreExpr-F.Conditional l of a b d) = integer_level (out-CType of) (chosen a b d)
folded_layer _ = f.Variable

-- The value of an integer constant expression with its type: made of numbers, conversions to integer types and operators
-- without calls, assignments, `++`, `--` and the comma.
abbrev pub folded : CoreExpr → Folded
folded = fold-CoreExpr Folded folded_layer

abbrev pub constant_by : ℕ → Folded → Checked (ℕ × Int)
constant_by line (f.Value n k) = Ok (n, k)
constant_by line f.Undefined = refused cause.NotConstant line
constant_by line f.Variable = refused cause.NotConstant line

-- where an integer constant is wanted (3.4)
abbrev pub integer_constant : ℕ → CoreExpr → Checked (ℕ × Int)
integer_constant line e = constant_by line (folded e)

abbrev pub plain_void_level : Level → Bool
plain_void_level (CType-F.Void false) = true
plain_void_level _ = false

-- `void *`
abbrev pub void_pointer_level : Level → Bool
void_pointer_level (CType-F.Pointer u false) = plain_void_level (out-CType u)
void_pointer_level _ = false

abbrev pub is_null_cast : CoreExpr-F CoreExpr → Bool
is_null_cast (CoreExpr-F.Cast l of a) = void_pointer_level (out-CType of) && is_zero (folded a)
is_null_cast _ = false

-- a null pointer constant: an integer constant 0, or one cast to `void *`
abbrev pub is_null : CoreExpr → Bool
is_null e = is_zero (folded e) || is_null_cast (out-CoreExpr e)
