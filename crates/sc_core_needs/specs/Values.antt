-- Inside: plumbing, a representation, an invariant or a promise beside the claim (docs/TRUST.md).
-- The value of an operand, and what C converts by itself (ANSI 3.2).
use Rattle.std.specs.Prelude.{Bool, true, false, not, ◌&&◌, ◌||◌, if◌then◌else◌, List}
use Rattle.sc_types.specs.declared.ctype.CType.{CType, out-CType}
use Rattle.sc_types.specs.declared.ctype.CType.TheOpen.{CType-F}
use Rattle.sc_types.specs.declared.ctype.StructDef.{StructDef}
use Rattle.sc_core.specs.declared.expression.CoreExpr.{CoreExpr, out-CoreExpr}
use Rattle.sc_core.specs.declared.expression.CoreExpr.TheOpen.{CoreExpr-F}
use Rattle.sc_core.specs.Types.{type_of}
use Rattle.sc_check_operand.specs.declared.shape.Shape.{Shape}
use Rattle.sc_check_operand.specs.declared.shape.Shape.TheVariants as s
use Rattle.sc_check_operand.specs.Types.{Level, shape, is_const, is_scalar}
use Rattle.sc_check_operand.specs.Operands.{is_lvalue, is_place}
use Rattle.sc_check_operand.specs.Constants.{is_null, is_zero, folded}
use Rattle.sc_core_needs.specs.Types.{alike, is_promoted, takes_level}

-- no conversion is left to make (3.2.2.1): a scalar has been read, an array that could be is a pointer, a function too
abbrev pub done_level : CoreExpr → Level → Bool
done_level e (CType-F.Void c) = true
done_level e (CType-F.Struct id c) = true
done_level e (CType-F.Int k c) = not (is_place e)
done_level e (CType-F.Pointer u c) = not (is_place e)
done_level e (CType-F.Array u n) = not (is_lvalue e)
done_level e (CType-F.Function f) = false

abbrev pub is_done : CoreExpr → Bool
is_done e = done_level e (out-CType (type_of e))

-- what the rules of operators ask of an operand's value
abbrev pub value : List StructDef → CoreExpr → Shape
value structs e = if is_done e then shape structs (type_of e) else s.Other

-- a value that can be compared with 0 (3.6.4.1)
abbrev pub is_condition : List StructDef → CoreExpr → Bool
is_condition structs e = is_scalar (value structs e)

abbrev pub is_promoted_shape : Shape → Bool
is_promoted_shape (s.Integer k) = is_promoted k
is_promoted_shape _ = false

-- a value of an integer type to which integers are promoted
abbrev pub is_promoted_value : List StructDef → CoreExpr → Bool
is_promoted_value structs e = is_promoted_shape (value structs e)

-- a value as an object of this type takes it
abbrev pub is_value_for : List StructDef → CType → CoreExpr → Bool
is_value_for structs of e = is_done e && alike structs of (type_of e)

abbrev pub convert_layer : CoreExpr-F CoreExpr → Bool
convert_layer (CoreExpr-F.Convert l of a) = true
convert_layer _ = false

abbrev pub is_convert : CoreExpr → Bool
is_convert e = convert_layer (out-CoreExpr e)

abbrev pub is_int_level : Level → Bool
is_int_level (CType-F.Int k c) = true
is_int_level _ = false

abbrev pub is_pointer_level : Level → Bool
is_pointer_level (CType-F.Pointer u c) = true
is_pointer_level _ = false

-- an integer becomes one of another type, the constant 0 a null pointer
abbrev pub from_integer : Level → CoreExpr → Bool
from_integer to a = is_int_level to || (is_pointer_level to && is_zero (folded a))

-- a pointer becomes one that takes it, a null pointer constant any
abbrev pub from_pointer : List StructDef → Level → CType → CoreExpr → Bool
from_pointer structs to u a = takes_level structs to u || (is_pointer_level to && is_null a)

abbrev pub converts_level : List StructDef → Level → Level → CoreExpr → Bool
converts_level structs to (CType-F.Int k c) a = from_integer to a
converts_level structs to (CType-F.Pointer u c) a = from_pointer structs to u a
converts_level structs to (CType-F.Array u n) a = is_lvalue a && takes_level structs to u
converts_level structs to (CType-F.Function f) a = takes_level structs to (type_of a)
converts_level structs to (CType-F.Void c) a = false
converts_level structs to (CType-F.Struct id c) a = false

-- A conversion that C makes by itself (3.2): it reads a place, makes a pointer of an array or a function, or changes the type of an
-- integer or a pointer, and is one for all that C makes there.
abbrev pub converts : List StructDef → CType → CoreExpr → Bool
converts structs to a = not (is_convert a) && not (is_const to) && converts_level structs (out-CType to) (out-CType (type_of a)) a
