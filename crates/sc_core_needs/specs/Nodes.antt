-- Inside: plumbing, a representation, an invariant or a promise beside the claim (docs/TRUST.md).
-- What each construct of a typed tree asks of its parts (ANSI 3.3).
use Rattle.std.specs.Prelude.{ℕ, ◌+◌, ◌==◌, nat_lt, nat_le, Bool, true, false, not, ◌&&◌, ◌||◌, if◌then◌else◌, List, [], ◌∷◌, length, slice_get, Option, Some, None}
use Rattle.sc_base.specs.declared.integer.Int.{Int}
use Rattle.sc_base.specs.declared.integer.Int.TheVariants as i
use Rattle.sc_base.specs.declared.operator.Op.{Op}
use Rattle.sc_base.specs.declared.operator.Op.TheVariants as op
use Rattle.sc_types.specs.Calls.{fits}
use Rattle.sc_types.specs.declared.ctype.CType.{CType, out-CType}
use Rattle.sc_types.specs.declared.ctype.CType.TheVariants as t
use Rattle.sc_types.specs.declared.ctype.CType.TheOpen.{CType-F}
use Rattle.sc_types.specs.declared.ctype.Signature.{Signature}
use Rattle.sc_types.specs.declared.ctype.Member.{Member}
use Rattle.sc_types.specs.declared.ctype.StructDef.{StructDef}
use Rattle.sc_types.specs.Compatibility.{same_int}
use Rattle.sc_types.specs.Conversions.{promote, usual}
use Rattle.sc_types.specs.Layouts.{rounded, size_in, align_in, is_union_in, members_in}
use Rattle.sc_types.specs.Tables.{is_object}
use Rattle.sc_ops.specs.Numbers.{converted}
use Rattle.sc_core.specs.declared.expression.UnaryOperator.{UnaryOperator}
use Rattle.sc_core.specs.declared.expression.UnaryOperator.TheVariants as u
use Rattle.sc_core.specs.declared.expression.CoreExpr.{CoreExpr}
use Rattle.sc_core.specs.Types.{type_of}
use Rattle.sc_check_operand.specs.declared.shape.Shape.{Shape}
use Rattle.sc_check_operand.specs.declared.shape.Shape.TheVariants as s
use Rattle.sc_check_operand.specs.Types.{Level, shape, is_const, is_function, is_array, is_void, is_pointer, is_scalar}
use Rattle.sc_check_operand.specs.Operands.{is_lvalue}
use Rattle.sc_check_operand.specs.Constants.{is_null, is_zero, folded}
use Rattle.sc_core_needs.specs.Types.{same, alike, is_plain_of, is_member_type, targets_alike, targets_join, points_to, is_promoted, is_int_of}
use Rattle.sc_core_needs.specs.Values.{is_done, value, is_condition, is_promoted_value, is_value_for}

abbrev pub number_level : Level → ℕ → Bool
number_level (CType-F.Int k c) n = not c && converted n k == n
number_level _ n = false

-- a number of an integer type, as its 32 bits (3.1.3)
abbrev pub is_number : CType → ℕ → Bool
is_number of n = number_level (out-CType of) n

abbrev pub text_level : Level → ℕ → Bool
text_level (CType-F.Array u m) n = is_int_of i.Char u && m == n
text_level _ n = false

abbrev pub is_text_of : CType → Option (List ℕ) → Bool
is_text_of of None = false
is_text_of of (Some bytes) = text_level (out-CType of) (length bytes)

-- a literal of the table, an array of all its bytes (3.1.4)
abbrev pub is_literal : List (List ℕ) → CType → ℕ → Bool
is_literal literals of n = is_text_of of (slice_get literals n)

abbrev pub element : List StructDef → CType → ℕ → Shape → Shape → CType → CType → Bool
element structs of n (s.Object m) (s.Integer k) a b = n == m && points_to structs a of
element structs of n (s.Integer k) (s.Object m) a b = n == m && points_to structs b of
element structs of n _ _ a b = false

-- `a[b]`: one operand is a pointer to objects of this type and size, the other an integer (3.3.2.1)
abbrev pub is_element : List StructDef → CType → ℕ → CoreExpr → CoreExpr → Bool
is_element structs of n a b = element structs of n (value structs a) (value structs b) (type_of a) (type_of b)

abbrev pub is_further_shape : Shape → Bool
is_further_shape (s.Integer k) = is_promoted k
is_further_shape shape = is_pointer shape

-- the type of a parameter is that of a scalar
abbrev pub is_parameter : List StructDef → CType → Bool
is_parameter structs of = is_scalar (shape structs of)

-- a function gives nothing, or a scalar
abbrev pub is_result : List StructDef → CType → Bool
is_result structs of = is_void of || is_scalar (shape structs of)

-- the most parameters of a function, and arguments of a call
abbrev pub limit : ℕ
limit = 31

-- an argument at the place of a parameter has its type; one behind the parameters is a promoted integer or a pointer
abbrev pub argument : List StructDef → Option CType → CoreExpr → Bool
argument structs (Some p) e = is_parameter structs p && is_value_for structs p e
argument structs None e = is_further_shape (value structs e)

abbrev pub arguments : List StructDef → List CType → ℕ → List CoreExpr → Bool
arguments structs ps n [] = true
arguments structs ps n (e ∷ es) = argument structs (slice_get ps n) e && arguments structs ps (n + 1) es

abbrev pub calls_function : List StructDef → CType → Signature → List CoreExpr → Bool
calls_function structs of f args =
    nat_le (length args) limit && is_result structs f.result && is_plain_of structs of f.result && fits f (length args) && arguments structs f.params 0 args

abbrev pub calls_level : List StructDef → CType → Level → List CoreExpr → Bool
calls_level structs of (CType-F.Function f) args = calls_function structs of f args
calls_level structs of _ args = false

abbrev pub calls_by : List StructDef → CType → Level → List CoreExpr → Bool
calls_by structs of (CType-F.Pointer g c) args = calls_level structs of (out-CType g) args
calls_by structs of _ args = false

-- a call of what a pointer to a function points to (3.3.2.2)
abbrev pub is_call : List StructDef → CType → CoreExpr → List CoreExpr → Bool
is_call structs of f args = is_done f && calls_by structs of (out-CType (type_of f)) args

-- where a member of this type stands that is behind others
abbrev pub place_after : List StructDef → ℕ → CType → ℕ
place_after structs end of = rounded end (align_in structs of)

-- what the next member stands behind, where one of this type is behind `end` bytes; each member of a union stands where the first does
abbrev pub end_after : List StructDef → Bool → ℕ → CType → ℕ
end_after structs false end of = place_after structs end of + size_in structs of
end_after structs true end of = end

-- Whether one of these members of a structure, or of a union where it is true, of which the first is behind `end` bytes, stands at n and
-- has this type.
abbrev pub stands_among : List StructDef → Bool → Bool → CType → ℕ → ℕ → List Member → Bool
stands_among structs is_union qualifier of n end [] = false
stands_among structs is_union qualifier of n end (m ∷ ms) =
    nat_le end n && is_object structs m.of && nat_lt 0 (align_in structs m.of)
    && ((place_after structs end m.of == n && is_member_type structs qualifier of m.of)
    || stands_among structs is_union qualifier of n (end_after structs is_union end m.of) ms)

abbrev pub member_level : List StructDef → CType → ℕ → Level → Bool
member_level structs of n (CType-F.Struct id c) = is_object structs (t.Struct id c) && stands_among structs (is_union_in structs id) c of n 0 (members_in structs id)
member_level structs of n _ = false

-- the member of a complete structure or union at this offset, of its type (3.3.2.3)
abbrev pub is_member : List StructDef → CType → ℕ → CType → Bool
is_member structs of n structure = member_level structs of n (out-CType structure)

abbrev pub pointed_level : List StructDef → CType → ℕ → Level → Bool
pointed_level structs of n (CType-F.Pointer x c) = is_member structs of n x
pointed_level structs of n _ = false

abbrev pub is_arrow : List StructDef → CType → ℕ → CoreExpr → Bool
is_arrow structs of n a = is_done a && pointed_level structs of n (out-CType (type_of a))

-- a place that may be written; where it is a structure, its members decide too (3.2.2.1)
abbrev pub is_target : CoreExpr → Bool
is_target a = is_lvalue a && not (is_const (type_of a))

-- a write to a place, whose value has its plain type
abbrev pub writes : List StructDef → CType → CoreExpr → Bool
writes structs of a = is_target a && is_plain_of structs of (type_of a)

abbrev pub step_of : ℕ → Shape → Bool
step_of n (s.Integer k) = n == 1
step_of n (s.Object m) = n == m
step_of n _ = false

-- `++` and `--` on an integer or a pointer to objects of this size (3.3.2.4, 3.3.3.1)
abbrev pub is_step : List StructDef → CType → ℕ → CoreExpr → Bool
is_step structs of n a = writes structs of a && step_of n (shape structs (type_of a))

-- the address of a place or of a function (3.3.3.2)
abbrev pub is_address : List StructDef → CType → CoreExpr → Bool
is_address structs of a = (is_function (type_of a) || is_lvalue a) && not (is_const of) && points_to structs of (type_of a)

-- what a pointer points to: a function, an array, or an object of a complete type (3.3.3.2)
abbrev pub is_indirection : List StructDef → CType → CoreExpr → Bool
is_indirection structs of a = is_done a && points_to structs (type_of a) of && (is_function of || is_array of || is_object structs of)

abbrev pub unary_by : CType → UnaryOperator → Shape → Bool
unary_by of u.Not shape = is_int_of i.Int of && is_scalar shape
unary_by of _ (s.Integer k) = is_int_of k of && is_promoted k
unary_by of _ _ = false

-- `+ - ~` on a promoted integer of the same type, `!` on a scalar (3.3.3.3)
abbrev pub is_unary : List StructDef → CType → UnaryOperator → CoreExpr → Bool
is_unary structs of o a = unary_by of o (value structs a)

-- pointers to functions become such pointers only
abbrev pub same_kind : Shape → Shape → Bool
same_kind s.Callable s.Callable = true
same_kind s.Callable from = false
same_kind to s.Callable = false
same_kind to from = is_pointer from

abbrev pub to_pointer : Shape → Shape → CoreExpr → Bool
to_pointer to (s.Integer k) a = is_zero (folded a)
to_pointer to from a = same_kind to from

abbrev pub from_integer : Shape → Bool
from_integer (s.Integer k) = true
from_integer _ = false

abbrev pub cast_by : Shape → Shape → CoreExpr → Bool
cast_by s.Void from a = true
cast_by (s.Integer k) from a = from_integer from
cast_by to from a = is_pointer to && to_pointer to from a

-- a cast: anything to `void`, an integer to an integer, a pointer to a pointer of its kind, the constant 0 to a pointer (3.3.4)
abbrev pub is_cast : List StructDef → CType → CoreExpr → Bool
is_cast structs of a = is_done a && not (is_const of) && cast_by (shape structs of) (value structs a) a
