-- Yardstick: to be compared with what it restates (docs/TRUST.md).
-- What an assignment takes (ANSI 3.3.16.1, 3.2.2.3), and which pointers go together (3.3.9, 3.3.15).
use Rattle.std.specs.Prelude.{ℕ, ◌==◌, Bool, true, false, not, ◌&&◌, ◌||◌, if◌then◌else◌, List, Ok}
use Rattle.sc_types.specs.declared.ctype.CType.{CType, out-CType}
use Rattle.sc_types.specs.declared.ctype.CType.TheOpen.{CType-F}
use Rattle.sc_types.specs.declared.ctype.StructDef.{StructDef}
use Rattle.sc_types.specs.Compatibility.{compatible}
use Rattle.sc_core.specs.declared.expression.CoreExpr.{CoreExpr}
use Rattle.sc_core.specs.Types.{type_of}
use Rattle.sc_check_operand.specs.declared.shape.Shape.{Shape}
use Rattle.sc_check_operand.specs.declared.shape.Shape.TheVariants as s
use Rattle.sc_check_operand.specs.Steps.{Checked, mismatch}
use Rattle.sc_check_operand.specs.Types.{Level, shape, is_pointer, is_function, is_void, is_const, plain}
use Rattle.sc_check_operand.specs.Constants.{is_null}
use Rattle.sc_check_operand.specs.Operands.{valued, to_type}

-- compatible, qualifiers left aside
abbrev pub alike : List StructDef → CType → CType → Bool
alike structs x y = compatible (plain x) structs (plain y) structs true

-- what two pointers point to goes together: compatible types, or `void` and anything but a function
abbrev pub joins : List StructDef → CType → CType → Bool
joins structs x y = alike structs x y || (is_void x && not (is_function y)) || (is_void y && not (is_function x))

-- the left has at least the right's qualifier
abbrev pub keeps_const : CType → CType → Bool
keeps_const x y = is_const x || not (is_const y)

abbrev pub targets_alike : List StructDef → Level → Level → Bool
targets_alike structs (CType-F.Pointer x c) (CType-F.Pointer y d) = alike structs x y
targets_alike structs _ _ = false

abbrev pub targets_join : List StructDef → Level → Level → Bool
targets_join structs (CType-F.Pointer x c) (CType-F.Pointer y d) = joins structs x y
targets_join structs _ _ = false

abbrev pub target_taken : List StructDef → Level → Level → Bool
target_taken structs (CType-F.Pointer x c) (CType-F.Pointer y d) = if keeps_const x y then joins structs x y else false
target_taken structs _ _ = false

abbrev pub pointer_takes : List StructDef → Level → Level → CoreExpr → Bool
pointer_takes structs to from e = if is_null e then true else target_taken structs to from

abbrev pub takes_by : List StructDef → Shape → Shape → Level → Level → CoreExpr → Bool
takes_by structs (s.Integer k) (s.Integer j) to from e = true
takes_by structs (s.Structure i) (s.Structure j) to from e = i == j
takes_by structs shape _ to from e = if is_pointer shape then pointer_takes structs to from e else false

-- Whether an object of this type takes the value: an integer takes integers, a structure the same structure, a pointer a
-- null constant and pointers that go with it and whose target has no qualifier more.
abbrev pub takes : List StructDef → CType → CoreExpr → Bool
takes structs of e = takes_by structs (shape structs of) (shape structs (type_of e)) (out-CType of) (out-CType (type_of e)) e

abbrev pub taken : List StructDef → ℕ → CType → CoreExpr → Checked CoreExpr
taken structs line of e = if takes structs of e then Ok (to_type line of e) else mismatch line

-- the operand's value, as an assignment to an object of this type takes it
abbrev pub assigned : List StructDef → ℕ → CType → CoreExpr → Checked CoreExpr
assigned structs line of e = taken structs line of (valued line e)
