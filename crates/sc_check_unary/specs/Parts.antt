-- Yardstick: to be compared with what it restates (docs/TRUST.md).
-- Elements, members and steps of objects (ANSI 3.3.2.1, 3.3.2.3, 3.3.2.4, 3.3.3.1).
use Rattle.std.specs.Prelude.{ℕ, Bool, not, ◌&&◌, if◌then◌else◌, List, Option, Some, None, Ok}
use Rattle.sc_types.specs.declared.ctype.CType.{CType, out-CType}
use Rattle.sc_types.specs.declared.ctype.CType.TheOpen.{CType-F}
use Rattle.sc_types.specs.declared.ctype.StructDef.{StructDef}
use Rattle.sc_core.specs.declared.expression.Step.{Step}
use Rattle.sc_core.specs.declared.expression.CoreExpr.{CoreExpr}
use Rattle.sc_core.specs.declared.expression.CoreExpr.TheVariants as c
use Rattle.sc_core.specs.Types.{type_of}
use Rattle.sc_check_operand.specs.declared.shape.Shape.{Shape}
use Rattle.sc_check_operand.specs.declared.shape.Shape.TheVariants as s
use Rattle.sc_check_operand.specs.Steps.{Checked, mismatch}
use Rattle.sc_check_operand.specs.Types.{Level, shape, target, plain, holds_const}
use Rattle.sc_check_operand.specs.Operands.{is_lvalue, valued}
use Rattle.sc_check_unary.specs.Leaves.{member_of}

abbrev pub element_by : Shape → Shape → CType → CType → Option (CType × ℕ)
element_by (s.Object n) (s.Integer k) a b = Some (target a, n)
element_by (s.Integer k) (s.Object n) a b = Some (target b, n)
element_by _ _ a b = None

-- the element's type and size: one operand is a pointer to a complete object type, the other an integer
abbrev pub element_of : List StructDef → CType → CType → Option (CType × ℕ)
element_of structs a b = element_by (shape structs a) (shape structs b) a b

abbrev pub index_by : ℕ → Option (CType × ℕ) → CoreExpr → CoreExpr → Checked CoreExpr
index_by line (Some e) a b = Ok (c.Index line e.0 e.1 a b)
index_by line None a b = mismatch line

abbrev pub index_values : List StructDef → ℕ → CoreExpr → CoreExpr → Checked CoreExpr
index_values structs line a b = index_by line (element_of structs (type_of a) (type_of b)) a b

-- `a[b]`
abbrev pub index : List StructDef → ℕ → CoreExpr → CoreExpr → Checked CoreExpr
index structs line a b = index_values structs line (valued line a) (valued line b)

abbrev pub member_by : ℕ → Option (CType × ℕ) → CoreExpr → Checked CoreExpr
member_by line (Some m) a = Ok (c.Member line m.0 m.1 a)
member_by line None a = mismatch line

-- `a.name`
abbrev pub member : List StructDef → ℕ → CoreExpr → List ℕ → Checked CoreExpr
member structs line a name = member_by line (member_of structs (type_of a) name) a

abbrev pub pointed_level : List StructDef → Level → List ℕ → Option (CType × ℕ)
pointed_level structs (CType-F.Pointer u d) name = member_of structs u name
pointed_level structs _ name = None

abbrev pub arrow_by : ℕ → Option (CType × ℕ) → CoreExpr → Checked CoreExpr
arrow_by line (Some m) a = Ok (c.Arrow line m.0 m.1 a)
arrow_by line None a = mismatch line

abbrev pub arrow_value : List StructDef → ℕ → CoreExpr → List ℕ → Checked CoreExpr
arrow_value structs line a name = arrow_by line (pointed_level structs (out-CType (type_of a)) name) a

-- `a->name`
abbrev pub arrow : List StructDef → ℕ → CoreExpr → List ℕ → Checked CoreExpr
arrow structs line a name = arrow_value structs line (valued line a) name

abbrev pub step_by : Shape → Option ℕ
step_by (s.Integer k) = Some 1
step_by (s.Object n) = Some n
step_by _ = None

-- An lvalue that can be modified (3.2.2.1): it is not const and has no const member. Arrays and incomplete types are left out
-- where it is used.
abbrev pub is_modifiable : List Bool → CoreExpr → Bool
is_modifiable known a = is_lvalue a && not (holds_const known (type_of a))

-- what `++` and `--` add or take away
abbrev pub step_of : List StructDef → List Bool → CoreExpr → Option ℕ
step_of structs known a = if is_modifiable known a then step_by (shape structs (type_of a)) else None

abbrev pub stepped : ℕ → Step → Option ℕ → CoreExpr → Checked CoreExpr
stepped line how (Some n) a = Ok (c.Step line (plain (type_of a)) how n a)
stepped line how None a = mismatch line

-- `++a`, `--a`, `a++`, `a--`
abbrev pub step : List StructDef → List Bool → ℕ → Step → CoreExpr → Checked CoreExpr
step structs known line how a = stepped line how (step_of structs known a) a
