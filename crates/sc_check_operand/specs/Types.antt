-- Yardstick: to be compared with what it restates (docs/TRUST.md).
-- What a type is good for (ANSI 3.1.2.5, 3.5.3).
use Rattle.std.specs.Prelude.{ℕ, Bool, true, false, ◌||◌, if◌then◌else◌, List, slice_index_or, Option, Some, None}
use Rattle.std.specs.List.{list_any}
use Rattle.sc_base.specs.declared.integer.Int.TheVariants as i
use Rattle.sc_types.specs.declared.ctype.CType.{CType, out-CType, fold-CType}
use Rattle.sc_types.specs.declared.ctype.CType.TheVariants as t
use Rattle.sc_types.specs.declared.ctype.CType.TheOpen.{CType-F}
use Rattle.sc_types.specs.declared.ctype.Signature.{Signature}
use Rattle.sc_types.specs.declared.ctype.Member.{Member}
use Rattle.sc_types.specs.declared.ctype.StructDef.{StructDef}
use Rattle.sc_types.specs.Layouts.{size_in}
use Rattle.sc_types.specs.Tables.{is_object}
use Rattle.sc_check_operand.specs.declared.shape.Shape.{Shape}
use Rattle.sc_check_operand.specs.declared.shape.Shape.TheVariants as s

-- one level of a type
abbrev pub Level : Type 0
Level = CType-F CType Signature

abbrev pub int : CType
int = t.Int i.Int false

abbrev pub unsigned : CType
unsigned = t.Int i.UInt false

-- the size of an object of this type, where the type is complete and its objects are not too large
abbrev pub object_size : List StructDef → CType → Option ℕ
object_size structs of = if is_object structs of then Some (size_in structs of) else None

abbrev pub target_shape : Option ℕ → Level → Shape
target_shape size (CType-F.Function f) = s.Callable
target_shape (Some n) _ = s.Object n
target_shape None _ = s.Incomplete

abbrev pub shape_layer : List StructDef → Level → Shape
shape_layer structs (CType-F.Void c) = s.Void
shape_layer structs (CType-F.Int k c) = s.Integer k
shape_layer structs (CType-F.Pointer u c) = target_shape (object_size structs u) (out-CType u)
shape_layer structs (CType-F.Array u n) = s.Other
shape_layer structs (CType-F.Struct id c) = s.Structure id
shape_layer structs (CType-F.Function f) = s.Other

-- what the rules of operators ask of an operand's type
abbrev pub shape : List StructDef → CType → Shape
shape structs of = shape_layer structs (out-CType of)

abbrev pub is_pointer : Shape → Bool
is_pointer (s.Object n) = true
is_pointer s.Incomplete = true
is_pointer s.Callable = true
is_pointer _ = false

-- an integer or a pointer
abbrev pub is_scalar : Shape → Bool
is_scalar (s.Integer k) = true
is_scalar shape = is_pointer shape

abbrev pub is_function_level : Level → Bool
is_function_level (CType-F.Function f) = true
is_function_level _ = false

abbrev pub is_function : CType → Bool
is_function of = is_function_level (out-CType of)

abbrev pub is_array_level : Level → Bool
is_array_level (CType-F.Array u n) = true
is_array_level _ = false

abbrev pub is_array : CType → Bool
is_array of = is_array_level (out-CType of)

abbrev pub is_void_level : Level → Bool
is_void_level (CType-F.Void c) = true
is_void_level _ = false

abbrev pub is_void : CType → Bool
is_void of = is_void_level (out-CType of)

abbrev pub const_layer : CType-F Bool (Unit {0}) → Bool
const_layer (CType-F.Void c) = c
const_layer (CType-F.Int k c) = c
const_layer (CType-F.Pointer u c) = c
const_layer (CType-F.Array u n) = u
const_layer (CType-F.Struct id c) = c
const_layer (CType-F.Function f) = false

-- whether the type is `const`, of an array whether its elements are
abbrev pub is_const : CType → Bool
is_const = fold-CType Bool (Unit {0}) const_layer (λ _. tt)

abbrev pub holds_layer : List Bool → CType-F Bool (Unit {0}) → Bool
holds_layer known (CType-F.Void c) = c
holds_layer known (CType-F.Int k c) = c
holds_layer known (CType-F.Pointer u c) = c
holds_layer known (CType-F.Array u n) = u
holds_layer known (CType-F.Struct id c) = c || slice_index_or known id false
holds_layer known (CType-F.Function f) = false

-- Whether an object of this type is `const` or has a const member at any depth (3.2.2.1); `known` says of each structure
-- whether it has one.
abbrev pub holds_const : List Bool → CType → Bool
holds_const known = fold-CType Bool (Unit {0}) (holds_layer known) (λ _. tt)

-- the same of a structure with these members
abbrev pub members_hold_const : List Bool → List Member → Bool
members_hold_const known = list_any (λ m. holds_const known m.of)

-- with this qualifier in place of its own; an array and a function have none of their own
abbrev pub requalified_level : Bool → Level → CType
requalified_level c (CType-F.Void d) = t.Void c
requalified_level c (CType-F.Int k d) = t.Int k c
requalified_level c (CType-F.Pointer u d) = t.Pointer u c
requalified_level c (CType-F.Array u n) = t.Array u n
requalified_level c (CType-F.Struct id d) = t.Struct id c
requalified_level c (CType-F.Function f) = t.Function f

abbrev pub requalified : Bool → CType → CType
requalified c of = requalified_level c (out-CType of)

-- the type of a value: without its qualifier
abbrev pub plain : CType → CType
plain = requalified false

abbrev pub constant_level : CType-F (CType → CType) (Unit {0}) → Level → CType
constant_level (CType-F.Array f n) (CType-F.Array u m) = t.Array (f u) m
constant_level _ level = requalified_level true level

-- with `const`, which an array hands on to its elements
abbrev pub constant : CType → CType
constant of = fold-CType (CType → CType) (Unit {0}) (λ f u. constant_level f (out-CType u)) (λ _. tt) of of

-- the type of a member of a structure that is const, or is not
abbrev pub member_type : Bool → CType → CType
member_type c of = if c then constant of else of

-- what a pointer points to
abbrev pub target_level : Level → CType
target_level (CType-F.Pointer u c) = u
target_level (CType-F.Void c) = t.Void false
target_level (CType-F.Int k c) = t.Void false
target_level (CType-F.Array u n) = t.Void false
target_level (CType-F.Struct id c) = t.Void false
target_level (CType-F.Function f) = t.Void false

abbrev pub target : CType → CType
target of = target_level (out-CType of)
