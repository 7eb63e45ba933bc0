-- Yardstick: to be compared with what it restates (docs/TRUST.md).
-- Operators before one operand, and casts (ANSI 3.3.3, 3.3.4).
use Rattle.std.specs.Prelude.{ℕ, Bool, true, false, not, ◌&&◌, ◌||◌, if◌then◌else◌, List, Option, Some, None, Ok}
use Rattle.sc_base.specs.declared.integer.Int.{Int}
use Rattle.sc_types.specs.declared.ctype.CType.{CType, out-CType}
use Rattle.sc_types.specs.declared.ctype.CType.TheVariants as t
use Rattle.sc_types.specs.declared.ctype.CType.TheOpen.{CType-F}
use Rattle.sc_types.specs.declared.ctype.StructDef.{StructDef}
use Rattle.sc_types.specs.Conversions.{promote}
use Rattle.sc_types.specs.Tables.{is_object}
use Rattle.sc_core.specs.declared.expression.UnaryOperator.{UnaryOperator}
use Rattle.sc_core.specs.declared.expression.UnaryOperator.TheVariants as u
use Rattle.sc_core.specs.declared.expression.CoreExpr.{CoreExpr}
use Rattle.sc_core.specs.declared.expression.CoreExpr.TheVariants as c
use Rattle.sc_core.specs.Types.{type_of}
use Rattle.sc_check_operand.specs.declared.fault.Cause.TheVariants as cause
use Rattle.sc_check_operand.specs.declared.shape.Shape.{Shape}
use Rattle.sc_check_operand.specs.declared.shape.Shape.TheVariants as s
use Rattle.sc_check_unary.specs.declared.prefix.Casting.{Casting}
use Rattle.sc_check_unary.specs.declared.prefix.Casting.TheVariants as how
use Rattle.sc_check_operand.specs.Steps.{Checked, refused, mismatch}
use Rattle.sc_check_operand.specs.Types.{Level, int, shape, is_pointer, is_scalar, is_function, is_array, plain}
use Rattle.sc_check_operand.specs.Constants.{is_zero, folded}
use Rattle.sc_check_operand.specs.Operands.{is_lvalue, valued, to_int}

-- what `&` takes: a function, or an lvalue that is not declared `register`
abbrev pub is_addressable : Bool → CoreExpr → Bool
is_addressable register a = is_function (type_of a) || (is_lvalue a && not register)

abbrev pub address_of : ℕ → CoreExpr → CoreExpr
address_of line a = c.Address line (t.Pointer (type_of a) false) a

-- `&a`; `register` says whether a is, or is a member by `.` of, an object that is declared so
abbrev pub address : ℕ → Bool → CoreExpr → Checked CoreExpr
address line register a = if is_addressable register a then Ok (address_of line a) else mismatch line

-- what `*` designates: a function, an array, or an object of a complete type
abbrev pub is_designated : List StructDef → CType → Bool
is_designated structs of = is_function of || is_array of || is_object structs of

abbrev pub designated_level : List StructDef → Level → Option CType
designated_level structs (CType-F.Pointer u d) = if is_designated structs u then Some u else None
designated_level structs _ = None

abbrev pub indirection_by : ℕ → Option CType → CoreExpr → Checked CoreExpr
indirection_by line (Some of) a = Ok (c.Indirection line of a)
indirection_by line None a = mismatch line

abbrev pub indirection_value : List StructDef → ℕ → CoreExpr → Checked CoreExpr
indirection_value structs line a = indirection_by line (designated_level structs (out-CType (type_of a))) a

-- `*a`
abbrev pub indirection : List StructDef → ℕ → CoreExpr → Checked CoreExpr
indirection structs line a = indirection_value structs line (valued line a)

abbrev pub promoted : ℕ → UnaryOperator → Int → CoreExpr → CoreExpr
promoted line o k a = c.Unary line (t.Int k false) o (to_int line k a)

abbrev pub arithmetic : ℕ → UnaryOperator → Shape → CoreExpr → Checked CoreExpr
arithmetic line o (s.Integer k) a = Ok (promoted line o (promote k) a)
arithmetic line o _ a = mismatch line

abbrev pub unary_by : ℕ → UnaryOperator → Shape → CoreExpr → Checked CoreExpr
unary_by line u.Not shape a = if is_scalar shape then Ok (c.Unary line int u.Not a) else mismatch line
unary_by line o shape a = arithmetic line o shape a

abbrev pub unary_value : List StructDef → ℕ → UnaryOperator → CoreExpr → Checked CoreExpr
unary_value structs line o a = unary_by line o (shape structs (type_of a)) a

-- `+a`, `-a`, `~a` on integers, `!a` on scalars
abbrev pub unary : List StructDef → ℕ → UnaryOperator → CoreExpr → Checked CoreExpr
unary structs line o a = unary_value structs line o (valued line a)

abbrev pub same_kind : Shape → Shape → Casting
same_kind s.Callable s.Callable = how.Taken
same_kind s.Callable from = how.Functions
same_kind to s.Callable = how.Functions
same_kind to from = how.Taken

abbrev pub pointer_from_integer : Bool → Casting
pointer_from_integer true = how.Taken
pointer_from_integer false = how.Pointers

abbrev pub to_pointer : Shape → Shape → CoreExpr → Casting
to_pointer to (s.Integer k) a = pointer_from_integer (is_zero (folded a))
to_pointer to from a = if is_pointer from then same_kind to from else how.Wrong

abbrev pub to_integer : Shape → Casting
to_integer (s.Integer k) = how.Taken
to_integer from = if is_pointer from then how.Pointers else how.Wrong

-- A cast: anything to `void`, integers to integers, pointers to pointers of their kind, the constant 0 to a pointer.
abbrev pub casting : Shape → Shape → CoreExpr → Casting
casting s.Void from a = how.Taken
casting (s.Integer k) from a = to_integer from
casting to from a = if is_pointer to then to_pointer to from a else how.Wrong

abbrev pub cast_by : ℕ → Casting → CType → CoreExpr → Checked CoreExpr
cast_by line how.Taken of a = Ok (c.Cast line (plain of) a)
cast_by line how.Pointers of a = refused cause.PointerInteger line
cast_by line how.Functions of a = refused cause.FunctionPointer line
cast_by line how.Wrong of a = mismatch line

abbrev pub cast_value : List StructDef → ℕ → CType → CoreExpr → Checked CoreExpr
cast_value structs line of a = cast_by line (casting (shape structs of) (shape structs (type_of a)) a) of a

-- `(of)a`
abbrev pub cast : List StructDef → ℕ → CType → CoreExpr → Checked CoreExpr
cast structs line of a = cast_value structs line of (valued line a)
