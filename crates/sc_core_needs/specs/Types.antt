-- Inside: plumbing, a representation, an invariant or a promise beside the claim (docs/TRUST.md).
-- Which types go together in a typed tree (ANSI 3.1.2.6, 3.2.2.3, 3.3.16.1).
use Rattle.std.specs.Prelude.{ℕ, ◌==◌, Bool, true, false, not, ◌&&◌, ◌||◌, if◌then◌else◌, List}
use Rattle.sc_base.specs.declared.integer.Int.{Int}
use Rattle.sc_types.specs.declared.ctype.CType.{CType, out-CType, fold-CType}
use Rattle.sc_types.specs.declared.ctype.CType.TheOpen.{CType-F}
use Rattle.sc_types.specs.declared.ctype.StructDef.{StructDef}
use Rattle.sc_types.specs.Compatibility.{compatible, same_bool, same_int, same_length}
use Rattle.sc_types.specs.Conversions.{promote}
use Rattle.sc_check_operand.specs.Types.{Level, is_array, is_const, is_function, is_function_level, is_void, is_void_level}

-- compatible types of one module, qualifiers and all
abbrev pub same : List StructDef → CType → CType → Bool
same structs t u = compatible t structs u structs true

-- One level of a type against another, with the test that an array's elements make.
abbrev pub alike_level : List StructDef → CType-F (CType → CType → Bool) (Unit {0}) → Level → Level → CType → CType → Bool
alike_level structs (CType-F.Void _) (CType-F.Void c) level t u = is_void_level level
alike_level structs (CType-F.Int _ _) (CType-F.Int i c) (CType-F.Int j d) t u = same_int i j
alike_level structs (CType-F.Pointer _ _) (CType-F.Pointer x c) (CType-F.Pointer y d) t u = same structs x y
alike_level structs (CType-F.Array p _) (CType-F.Array x n) (CType-F.Array y m) t u = same_length n m && p x y
alike_level structs (CType-F.Struct _ _) (CType-F.Struct i c) (CType-F.Struct j d) t u = i == j
alike_level structs (CType-F.Function _) (CType-F.Function f) level t u = is_function_level level && same structs t u
alike_level structs _ _ _ t u = false

-- Compatible but for the types' own qualifiers, which an array has in its elements.
abbrev pub alike : List StructDef → CType → CType → Bool
alike structs t u = fold-CType (CType → CType → Bool) (Unit {0}) (λ p t u. alike_level structs p (out-CType t) (out-CType u) t u) (λ _. tt) t t u

-- the type of a value of an object of type u: without qualifier
abbrev pub is_plain_of : List StructDef → CType → CType → Bool
is_plain_of structs t u = not (is_const t) && alike structs t u

-- the type of what an expression of type u gives: without qualifier, but an array keeps that of its elements
abbrev pub is_given_as : List StructDef → CType → CType → Bool
is_given_as structs t u = (if is_array u then same_bool (is_const t) (is_const u) else not (is_const t)) && alike structs t u

-- the type of a member of type u, in a structure that is const or is not
abbrev pub is_member_type : List StructDef → Bool → CType → CType → Bool
is_member_type structs qualifier t u = same_bool (is_const t) (is_const u || qualifier) && alike structs t u

-- what two pointers point to goes together: alike, or `void` and anything but a function
abbrev pub joins : List StructDef → CType → CType → Bool
joins structs x y = alike structs x y || (is_void x && not (is_function y)) || (is_void y && not (is_function x))

-- a pointer to x takes one to y: they go together, and x has at least y's qualifier
abbrev pub passes : List StructDef → CType → CType → Bool
passes structs x y = (is_const x || not (is_const y)) && joins structs x y

-- a pointer of one type takes what a pointer of another points to
abbrev pub takes_level : List StructDef → Level → CType → Bool
takes_level structs (CType-F.Pointer x c) y = passes structs x y
takes_level structs _ y = false

-- two pointers to types that are alike
abbrev pub targets_alike : List StructDef → Level → Level → Bool
targets_alike structs (CType-F.Pointer x c) (CType-F.Pointer y d) = alike structs x y
targets_alike structs _ _ = false

-- two pointers to types that go together
abbrev pub targets_join : List StructDef → Level → Level → Bool
targets_join structs (CType-F.Pointer x c) (CType-F.Pointer y d) = joins structs x y
targets_join structs _ _ = false

-- a pointer to this very type
abbrev pub points_level : List StructDef → Level → CType → Bool
points_level structs (CType-F.Pointer x c) t = same structs t x
points_level structs _ t = false

abbrev pub points_to : List StructDef → CType → CType → Bool
points_to structs p t = points_level structs (out-CType p) t

-- an integer type to which integers are promoted
abbrev pub is_promoted : Int → Bool
is_promoted k = same_int (promote k) k

abbrev pub is_int_level : Int → Level → Bool
is_int_level k (CType-F.Int j c) = same_int j k && not c
is_int_level k _ = false

-- this integer type, without qualifier
abbrev pub is_int_of : Int → CType → Bool
is_int_of k t = is_int_level k (out-CType t)
