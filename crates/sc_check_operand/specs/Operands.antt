-- Yardstick: to be compared with what it restates (docs/TRUST.md).
-- What an operand gives: its value, or the place itself (ANSI 3.2.2.1, 3.2.1.5).
use Rattle.std.specs.Prelude.{ℕ, Bool, true, false, not, if◌then◌else◌, Option, Some, None}
use Rattle.sc_base.specs.declared.integer.Int.{Int}
use Rattle.sc_types.specs.declared.ctype.CType.{CType, out-CType}
use Rattle.sc_types.specs.declared.ctype.CType.TheVariants as t
use Rattle.sc_types.specs.declared.ctype.CType.TheOpen.{CType-F}
use Rattle.sc_types.specs.Compatibility.{same_int}
use Rattle.sc_core.specs.declared.expression.CoreExpr.{CoreExpr, out-CoreExpr, fold-CoreExpr}
use Rattle.sc_core.specs.declared.expression.CoreExpr.TheVariants as c
use Rattle.sc_core.specs.declared.expression.CoreExpr.TheOpen.{CoreExpr-F}
use Rattle.sc_core.specs.Types.{type_of}
use Rattle.sc_check_operand.specs.Types.{Level, is_function}

abbrev pub lvalue_layer : CoreExpr-F Bool → Bool
lvalue_layer (CoreExpr-F.Automatic l of block at) = true
lvalue_layer (CoreExpr-F.Static l of key) = true
lvalue_layer (CoreExpr-F.Literal l of n) = true
lvalue_layer (CoreExpr-F.Index l of n a b) = true
lvalue_layer (CoreExpr-F.Arrow l of n a) = true
lvalue_layer (CoreExpr-F.Indirection l of a) = not (is_function of)
lvalue_layer (CoreExpr-F.Member l of n a) = a
lvalue_layer _ = false

-- whether the expression designates an object that can be named (3.2.2.1); a member does where its structure does
abbrev pub is_lvalue : CoreExpr → Bool
is_lvalue = fold-CoreExpr Bool lvalue_layer

abbrev pub place_layer : CoreExpr-F CoreExpr → Bool
place_layer (CoreExpr-F.Automatic l of block at) = true
place_layer (CoreExpr-F.Static l of key) = true
place_layer (CoreExpr-F.Literal l of n) = true
place_layer (CoreExpr-F.Index l of n a b) = true
place_layer (CoreExpr-F.Arrow l of n a) = true
place_layer (CoreExpr-F.Indirection l of a) = not (is_function of)
place_layer (CoreExpr-F.Member l of n a) = true
place_layer _ = false

-- whether its value has to be read; that of a member of any structure has
abbrev pub is_place : CoreExpr → Bool
is_place e = place_layer (out-CoreExpr e)

abbrev pub bare_layer : CoreExpr-F CoreExpr → CoreExpr → CoreExpr
bare_layer (CoreExpr-F.Convert l of a) e = a
bare_layer _ e = e

-- Several conversions in a row are one, to the last type.
abbrev pub bare : CoreExpr → CoreExpr
bare e = bare_layer (out-CoreExpr e) e

abbrev pub converted : ℕ → CType → CoreExpr → CoreExpr
converted line to e = c.Convert line to (bare e)

abbrev pub where_true : Bool → CType → Option CType
where_true true of = Some of
where_true false of = None

abbrev pub value_level : CoreExpr → Level → Option CType
value_level e (CType-F.Array u n) = where_true (is_lvalue e) (t.Pointer u false)
value_level e (CType-F.Function f) = Some (t.Pointer (type_of e) false)
value_level e (CType-F.Struct id k) = None
value_level e (CType-F.Void k) = None
value_level e (CType-F.Int k d) = where_true (is_place e) (t.Int k false)
value_level e (CType-F.Pointer u d) = where_true (is_place e) (t.Pointer u false)

-- The type of the value, where a conversion gives it: a place of an integer or a pointer is read, an array becomes a pointer
-- to its first element and a function a pointer to it. A structure's value is its place.
abbrev pub value_type : CoreExpr → Option CType
value_type e = value_level e (out-CType (type_of e))

abbrev pub converted_by : ℕ → Option CType → CoreExpr → CoreExpr
converted_by line (Some to) e = converted line to e
converted_by line None e = e

-- the operand's value
abbrev pub valued : ℕ → CoreExpr → CoreExpr
valued line e = converted_by line (value_type e) e

abbrev pub is_int_level : Int → Level → Bool
is_int_level k (CType-F.Int j d) = same_int j k
is_int_level k _ = false

abbrev pub is_of_int : Int → CoreExpr → Bool
is_of_int k e = is_int_level k (out-CType (type_of e))

-- a value in an integer type; one of that very type stays
abbrev pub to_int : ℕ → Int → CoreExpr → CoreExpr
to_int line k e = if is_of_int k e then e else converted line (t.Int k false) e

abbrev pub to_level : ℕ → Level → CoreExpr → CoreExpr
to_level line (CType-F.Int k d) e = to_int line k e
to_level line (CType-F.Pointer u d) e = converted line (t.Pointer u false) e
to_level line (CType-F.Void d) e = e
to_level line (CType-F.Array u n) e = e
to_level line (CType-F.Struct id d) e = e
to_level line (CType-F.Function f) e = e

-- a value in the type of an object that takes it
abbrev pub to_type : ℕ → CType → CoreExpr → CoreExpr
to_type line of e = to_level line (out-CType of) e
