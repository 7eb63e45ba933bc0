-- Yardstick: to be compared with what it restates (docs/TRUST.md).
-- Operators between two operands, and the comma (ANSI 3.3.5 to 3.3.14, 3.3.17).
use Rattle.std.specs.Prelude.{ℕ, Bool, true, false, ◌&&◌, ◌||◌, if◌then◌else◌, List, Ok}
use Rattle.sc_base.specs.declared.integer.Int.{Int}
use Rattle.sc_base.specs.declared.integer.Int.TheVariants as i
use Rattle.sc_base.specs.declared.operator.Op.{Op}
use Rattle.sc_base.specs.declared.operator.Op.TheVariants as op
use Rattle.sc_types.specs.declared.ctype.CType.{out-CType}
use Rattle.sc_types.specs.declared.ctype.CType.TheVariants as t
use Rattle.sc_types.specs.declared.ctype.StructDef.{StructDef}
use Rattle.sc_types.specs.Conversions.{promote, usual}
use Rattle.sc_tree.specs.declared.operator.Binary.{Binary}
use Rattle.sc_tree.specs.declared.operator.Binary.TheVariants as b
use Rattle.sc_core.specs.declared.expression.CoreExpr.{CoreExpr}
use Rattle.sc_core.specs.declared.expression.CoreExpr.TheVariants as c
use Rattle.sc_core.specs.Types.{type_of}
use Rattle.sc_check_operand.specs.declared.shape.Shape.{Shape}
use Rattle.sc_check_operand.specs.declared.shape.Shape.TheVariants as s
use Rattle.sc_check_binary.specs.declared.operators.Class.{Class}
use Rattle.sc_check_binary.specs.declared.operators.Class.TheVariants as class
use Rattle.sc_check_binary.specs.declared.operators.Plan.{Plan}
use Rattle.sc_check_binary.specs.declared.operators.Plan.TheVariants as plan
use Rattle.sc_check_operand.specs.Steps.{Checked, mismatch}
use Rattle.sc_check_operand.specs.Types.{int, shape, is_pointer, is_scalar, plain}
use Rattle.sc_check_operand.specs.Constants.{is_null}
use Rattle.sc_check_operand.specs.Operands.{valued, to_int, converted}
use Rattle.sc_check_operand.specs.Agreement.{targets_alike, targets_join}

-- the operators with one rule, and the operation of each
abbrev pub class_of : Binary → Class
class_of b.LogicalOr = class.Or
class_of b.LogicalAnd = class.And
class_of b.Or = class.Arithmetic op.Or
class_of b.Xor = class.Arithmetic op.Xor
class_of b.And = class.Arithmetic op.And
class_of b.Equal = class.Equality op.Eq
class_of b.NotEqual = class.Equality op.Ne
class_of b.Less = class.Order op.Lt
class_of b.Greater = class.Order op.Gt
class_of b.LessEqual = class.Order op.Le
class_of b.GreaterEqual = class.Order op.Ge
class_of b.ShiftLeft = class.Shift op.Shl
class_of b.ShiftRight = class.Shift op.Shr
class_of b.Add = class.Sum
class_of b.Subtract = class.Difference
class_of b.Multiply = class.Arithmetic op.Mul
class_of b.Divide = class.Arithmetic op.Div
class_of b.Remainder = class.Arithmetic op.Rem

abbrev pub arithmetic : Op → Shape → Shape → Plan
arithmetic o (s.Integer j) (s.Integer k) = plan.Arithmetic o (usual j k)
arithmetic o _ _ = plan.Wrong

abbrev pub shift : Op → Shape → Shape → Plan
shift o (s.Integer j) (s.Integer k) = plan.Shift o (promote j) (promote k)
shift o _ _ = plan.Wrong

-- integers, or a pointer to a complete object type and an integer, in any order
abbrev pub sum : Shape → Shape → Plan
sum (s.Integer j) (s.Integer k) = plan.Arithmetic op.Add (usual j k)
sum (s.Object n) (s.Integer k) = plan.Left op.Add n
sum (s.Integer j) (s.Object n) = plan.Right op.Add n
sum _ _ = plan.Wrong

abbrev pub where_alike : Bool → Plan → Plan
where_alike true p = p
where_alike false p = plan.Wrong

-- integers, such a pointer and an integer on its right, or two such pointers to compatible types
abbrev pub difference : Bool → Shape → Shape → Plan
difference alike (s.Integer j) (s.Integer k) = plan.Arithmetic op.Sub (usual j k)
difference alike (s.Object n) (s.Integer k) = plan.Left op.Sub n
difference alike (s.Object n) (s.Object m) = where_alike alike (plan.Difference n)
difference alike _ _ = plan.Wrong

-- integers, or pointers to compatible types other than functions
abbrev pub order : Op → Bool → Shape → Shape → Plan
order o alike (s.Integer j) (s.Integer k) = plan.Comparison o (usual j k)
order o alike s.Callable _ = plan.Wrong
order o alike a b = if is_pointer a && is_pointer b then where_alike alike (plan.Pointers o) else plan.Wrong

abbrev pub pointers : Op → CoreExpr → CoreExpr → Bool → Plan
pointers o a b joined = if is_null a || is_null b then plan.Pointers o else where_alike joined (plan.Pointers o)

abbrev pub null_left : Op → CoreExpr → Shape → Plan
null_left o a y = if is_pointer y then where_alike (is_null a) (plan.NullLeft o) else plan.Wrong

abbrev pub null_right : Op → CoreExpr → Shape → Plan
null_right o b x = if is_pointer x then where_alike (is_null b) (plan.NullRight o) else plan.Wrong

-- integers, a pointer and the constant 0, or pointers that go together
abbrev pub equality : Op → CoreExpr → CoreExpr → Bool → Shape → Shape → Plan
equality o a b joined (s.Integer j) (s.Integer k) = plan.Comparison o (usual j k)
equality o a b joined (s.Integer j) y = null_left o a y
equality o a b joined x (s.Integer k) = null_right o b x
equality o a b joined x y = if is_pointer x && is_pointer y then pointers o a b joined else plan.Wrong

abbrev pub logical : Plan → Shape → Shape → Plan
logical p a b = if is_scalar a && is_scalar b then p else plan.Wrong

-- what two operands of these shapes make
abbrev pub plan_by : Class → Bool → Bool → Shape → Shape → CoreExpr → CoreExpr → Plan
plan_by (class.Arithmetic o) alike joined x y a b = arithmetic o x y
plan_by (class.Shift o) alike joined x y a b = shift o x y
plan_by class.Sum alike joined x y a b = sum x y
plan_by class.Difference alike joined x y a b = difference alike x y
plan_by (class.Order o) alike joined x y a b = order o alike x y
plan_by (class.Equality o) alike joined x y a b = equality o a b joined x y
plan_by class.And alike joined x y a b = logical plan.And x y
plan_by class.Or alike joined x y a b = logical plan.Or x y

abbrev pub plan_of : List StructDef → Binary → CoreExpr → CoreExpr → Plan
plan_of structs o a b =
    plan_by (class_of o) (targets_alike structs (out-CType (type_of a)) (out-CType (type_of b))) (targets_join structs (out-CType (type_of a)) (out-CType (type_of b)))
    (shape structs (type_of a)) (shape structs (type_of b)) a b

-- the operation k on two integers, with a result of the type r
abbrev pub operated : ℕ → Op → Int → Int → CoreExpr → CoreExpr → CoreExpr
operated line o r k a b = c.Binary line (t.Int r false) o (to_int line k a) (to_int line k b)

abbrev pub shifted : ℕ → Op → Int → Int → CoreExpr → CoreExpr → CoreExpr
shifted line o j k a b = c.Binary line (t.Int j false) o (to_int line j a) (to_int line k b)

abbrev pub null_as : ℕ → CoreExpr → CoreExpr → CoreExpr
null_as line zero pointer = converted line (type_of pointer) zero

abbrev pub planned : ℕ → Plan → CoreExpr → CoreExpr → Checked CoreExpr
planned line (plan.Arithmetic o k) a b = Ok (operated line o k k a b)
planned line (plan.Comparison o k) a b = Ok (operated line o i.Int k a b)
planned line (plan.Shift o j k) a b = Ok (shifted line o j k a b)
planned line (plan.Left o n) a b = Ok (c.Offset line (type_of a) o n a b)
planned line (plan.Right o n) a b = Ok (c.Offset line (type_of b) o n a b)
planned line (plan.Difference n) a b = Ok (c.Difference line int n a b)
planned line (plan.Pointers o) a b = Ok (c.Compare line int o a b)
planned line (plan.NullLeft o) a b = Ok (c.Compare line int o (null_as line a b) b)
planned line (plan.NullRight o) a b = Ok (c.Compare line int o a (null_as line b a))
planned line plan.And a b = Ok (c.And line int a b)
planned line plan.Or a b = Ok (c.Or line int a b)
planned line plan.Wrong a b = mismatch line

abbrev pub binary_values : List StructDef → ℕ → Binary → CoreExpr → CoreExpr → Checked CoreExpr
binary_values structs line o a b = planned line (plan_of structs o a b) a b

-- `a o b`
abbrev pub binary : List StructDef → ℕ → Binary → CoreExpr → CoreExpr → Checked CoreExpr
binary structs line o a b = binary_values structs line o (valued line a) (valued line b)

abbrev pub comma_values : ℕ → CoreExpr → CoreExpr → CoreExpr
comma_values line a b = c.Comma line (plain (type_of b)) a b

-- `a, b`
abbrev pub comma : ℕ → CoreExpr → CoreExpr → CoreExpr
comma line a b = comma_values line (valued line a) (valued line b)
