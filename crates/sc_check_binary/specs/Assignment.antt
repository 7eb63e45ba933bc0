-- Yardstick: to be compared with what it restates (docs/TRUST.md).
-- Assignments (ANSI 3.3.16).
use Rattle.std.specs.Prelude.{ℕ, Bool, if◌then◌else◌, List, Option, Some, None, Ok}
use Rattle.sc_base.specs.declared.operator.Op.{Op}
use Rattle.sc_base.specs.declared.operator.Op.TheVariants as op
use Rattle.sc_types.specs.declared.ctype.CType.{CType}
use Rattle.sc_types.specs.declared.ctype.StructDef.{StructDef}
use Rattle.sc_types.specs.Conversions.{promote, usual}
use Rattle.sc_tree.specs.declared.operator.Binary.{Binary}
use Rattle.sc_core.specs.declared.expression.CoreExpr.{CoreExpr}
use Rattle.sc_core.specs.declared.expression.CoreExpr.TheVariants as c
use Rattle.sc_core.specs.Types.{type_of}
use Rattle.sc_check_operand.specs.declared.shape.Shape.{Shape}
use Rattle.sc_check_operand.specs.declared.shape.Shape.TheVariants as s
use Rattle.sc_check_binary.specs.declared.operators.Class.{Class}
use Rattle.sc_check_binary.specs.declared.operators.Class.TheVariants as class
use Rattle.sc_check_binary.specs.declared.storing.Target.{Target}
use Rattle.sc_check_binary.specs.declared.storing.Target.TheVariants as target
use Rattle.sc_check_binary.specs.declared.storing.Change.{Change}
use Rattle.sc_check_binary.specs.declared.storing.Change.TheVariants as change
use Rattle.sc_check_operand.specs.Steps.{Checked, and_then, mismatch}
use Rattle.sc_check_operand.specs.Types.{shape, object_size, is_pointer, plain}
use Rattle.sc_check_operand.specs.Operands.{valued, to_int}
use Rattle.sc_check_operand.specs.Agreement.{taken}
use Rattle.sc_check_unary.specs.Parts.{is_modifiable}
use Rattle.sc_check_binary.specs.Binary.{class_of}

abbrev pub whole_by : Option ℕ → Target
whole_by (Some n) = target.Whole n
whole_by None = target.Wrong

abbrev pub target_by : List StructDef → CType → Shape → Target
target_by structs of (s.Integer k) = target.Scalar
target_by structs of (s.Structure i) = whole_by (object_size structs of)
target_by structs of shape = if is_pointer shape then target.Scalar else target.Wrong

-- what is stored: a scalar, or a whole complete structure
abbrev pub target_of : List StructDef → CType → Target
target_of structs of = target_by structs of (shape structs of)

abbrev pub modified : List StructDef → List Bool → CoreExpr → Target
modified structs known a = if is_modifiable known a then target_of structs (type_of a) else target.Wrong

abbrev pub stored_by : ℕ → Target → CoreExpr → CoreExpr → Checked CoreExpr
stored_by line target.Scalar a b = Ok (c.Assign line (plain (type_of a)) a b)
stored_by line (target.Whole n) a b = Ok (c.AssignStructure line (plain (type_of a)) n a b)
stored_by line target.Wrong a b = mismatch line

abbrev pub stored : ℕ → Target → CoreExpr → Checked CoreExpr → Checked CoreExpr
stored line to a value = and_then value (λ b. stored_by line to a b)

abbrev pub assignment_value : List StructDef → List Bool → ℕ → CoreExpr → CoreExpr → Checked CoreExpr
assignment_value structs known line a b = stored line (modified structs known a) a (taken structs line (type_of a) b)

-- `a = b`
abbrev pub assignment : List StructDef → List Bool → ℕ → CoreExpr → CoreExpr → Checked CoreExpr
assignment structs known line a b = assignment_value structs known line a (valued line b)

abbrev pub arithmetic : Op → Shape → Shape → Change
arithmetic o (s.Integer j) (s.Integer k) = change.Integers o (usual j k) (usual j k)
arithmetic o _ _ = change.Wrong

abbrev pub shift : Op → Shape → Shape → Change
shift o (s.Integer j) (s.Integer k) = change.Integers o (promote j) (promote k)
shift o _ _ = change.Wrong

-- `+=` and `-=` take a pointer too, on the left
abbrev pub sum : Op → Shape → Shape → Change
sum o (s.Object n) (s.Integer k) = change.Pointer o n
sum o x y = arithmetic o x y

abbrev pub change_by : Class → Shape → Shape → Change
change_by (class.Arithmetic o) x y = arithmetic o x y
change_by (class.Shift o) x y = shift o x y
change_by class.Sum x y = sum op.Add x y
change_by class.Difference x y = sum op.Sub x y
change_by (class.Order o) x y = change.Wrong
change_by (class.Equality o) x y = change.Wrong
change_by class.And x y = change.Wrong
change_by class.Or x y = change.Wrong

abbrev pub change_of : List StructDef → List Bool → Binary → CoreExpr → CoreExpr → Change
change_of structs known o a b = if is_modifiable known a then change_by (class_of o) (shape structs (type_of a)) (shape structs (type_of b)) else change.Wrong

abbrev pub changed : ℕ → Change → CoreExpr → CoreExpr → Checked CoreExpr
changed line (change.Integers o j k) a b = Ok (c.Compound line (plain (type_of a)) o j a (to_int line k b))
changed line (change.Pointer o n) a b = Ok (c.CompoundOffset line (plain (type_of a)) o n a b)
changed line change.Wrong a b = mismatch line

abbrev pub compound_value : List StructDef → List Bool → ℕ → Binary → CoreExpr → CoreExpr → Checked CoreExpr
compound_value structs known line o a b = changed line (change_of structs known o a b) a b

-- `a o= b`
abbrev pub compound : List StructDef → List Bool → ℕ → Binary → CoreExpr → CoreExpr → Checked CoreExpr
compound structs known line o a b = compound_value structs known line o a (valued line b)
