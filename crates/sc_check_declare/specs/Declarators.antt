-- Yardstick: to be compared with what it restates (docs/TRUST.md).
-- The types that declarators give (ANSI 3.5.4).
use Rattle.std.specs.Prelude.{ℕ, ◌+◌, ◌==◌, max, nat_lt, Bool, false, ◌&&◌, ◌||◌, if◌then◌else◌, List, [], ◌∷◌, ◌++◌, Option, Some, None, is_some, Ok, ℤ, pos, negsuc}
use Rattle.sc_base.specs.declared.integer.Int.{Int}
use Rattle.sc_tree.specs.declared.expression.Storage.{Storage}
use Rattle.sc_types.specs.declared.ctype.CType.{CType, out-CType}
use Rattle.sc_types.specs.declared.ctype.CType.TheVariants as t
use Rattle.sc_types.specs.declared.ctype.CType.TheOpen.{CType-F}
use Rattle.sc_types.specs.declared.ctype.Signature.{Signature}
use Rattle.sc_types.specs.declared.ctype.StructDef.{StructDef}
use Rattle.sc_types.specs.Layouts.{layout_in}
use Rattle.sc_types.specs.Tables.{is_object}
use Rattle.sc_ops.specs.Numbers.{number_of_low, is_signed}
use Rattle.sc_check_declare.specs.declared.failure.Reason.{Reason}
use Rattle.sc_check_declare.specs.declared.failure.Reason.TheVariants as r
use Rattle.sc_check_declare.specs.declared.derivation.DeclaredType.{DeclaredType}
use Rattle.sc_check_declare.specs.declared.derivation.Derived.{Derived}
use Rattle.sc_check_declare.specs.declared.derivation.Derived.TheVariants as d
use Rattle.sc_check_declare.specs.declared.derivation.Parameters.{Parameters}
use Rattle.sc_check_declare.specs.declared.storage.Place.TheVariants as place
use Rattle.sc_check_declare.specs.Outcomes.{Outcome, refuse, after}
use Rattle.sc_check_declare.specs.Counts.{is_small}
use Rattle.sc_check_declare.specs.Qualifiers.{unqualified}
use Rattle.sc_check_declare.specs.Storages.{may_stand}

-- so many derivations are inside one another at most
abbrev pub most : ℕ
most = 32

abbrev pub deeper : ℕ → ℕ → Outcome ℕ
deeper line depth = if nat_lt depth most then Ok (depth + 1) else refuse r.Height line

-- a type that is made is made of so many types at most
abbrev pub counted : ℕ → DeclaredType → Outcome DeclaredType
counted line made = if is_small made.of then Ok made else refuse r.Height line

abbrev pub is_complete : List StructDef → CType → Bool
is_complete structs of = is_some (layout_in structs of)

-- a pointer to a type (3.5.4.1)
abbrev pub pointer : ℕ → Bool → DeclaredType → Outcome DeclaredType
pointer line constant base = after (deeper line base.depth) (λ n. counted line (record { of = t.Pointer base.of constant; depth = n }))

-- a known size gives an object that is not too large
abbrev pub fits : List StructDef → ℕ → ℕ → DeclaredType → Outcome DeclaredType
fits structs line length made = if length == 0 || is_object structs made.of then Ok made else refuse r.Size line

-- an array of objects of a complete type (3.5.4.2); the length 0 says that its size is not known
abbrev pub array : List StructDef → ℕ → ℕ → DeclaredType → Outcome DeclaredType
array structs line length base =
    if is_complete structs base.of
    then after (deeper line base.depth) (λ n. after (counted line (record { of = t.Array base.of length; depth = n })) (fits structs line length))
    else refuse r.Rule line

-- why a function may not give this: an array, a function, and here a structure too (3.5.4.3)
abbrev pub result_fault : CType-F CType Signature → Option Reason
result_fault (CType-F.Void c) = None
result_fault (CType-F.Int i c) = None
result_fault (CType-F.Pointer u c) = None
result_fault (CType-F.Array u n) = Some r.Rule
result_fault (CType-F.Struct id c) = Some r.StructureValue
result_fault (CType-F.Function s) = Some r.Rule

abbrev pub function_type : CType → Parameters → CType
function_type result ps = t.Function (record { result = result; params = ps.types; variadic = false })

abbrev pub function_of : Option Reason → ℕ → Parameters → DeclaredType → Outcome DeclaredType
function_of (Some why) line ps base = refuse why line
function_of None line ps base = after (deeper line (max base.depth ps.depth)) (λ n. counted line (record { of = function_type base.of ps; depth = n }))

-- a function that gives a type
abbrev pub function : ℕ → Parameters → DeclaredType → Outcome DeclaredType
function line ps base = function_of (result_fault (out-CType base.of)) line ps base

abbrev pub derive : List StructDef → ℕ → Derived → DeclaredType → Outcome DeclaredType
derive structs line (d.Pointer constant) base = pointer line constant base
derive structs line (d.Array length) base = array structs line length base
derive structs line (d.Function ps) base = function line ps base

-- A declarator's derivations stand from the name outwards, so the last is nearest to the type of the specifiers.
abbrev pub declarator : List StructDef → ℕ → List Derived → DeclaredType → Outcome DeclaredType
declarator structs line [] base = Ok base
declarator structs line (x ∷ xs) base = after (declarator structs line xs base) (derive structs line x)

-- a parameter that is an array or a function is a pointer (3.5.4.3, 3.7.1)
abbrev pub adjust : ℕ → DeclaredType → CType-F CType Signature → Outcome DeclaredType
adjust line p (CType-F.Array u n) = Ok (record { of = t.Pointer u false; depth = p.depth })
adjust line p (CType-F.Function s) = pointer line false p
adjust line p (CType-F.Struct id c) = refuse r.StructureValue line
adjust line p (CType-F.Void c) = Ok p
adjust line p (CType-F.Int i c) = Ok p
adjust line p (CType-F.Pointer u c) = Ok p

abbrev pub parameter : ℕ → Option Storage → DeclaredType → Outcome DeclaredType
parameter line storage p = if may_stand place.Parameter storage then adjust line p (out-CType p.of) else refuse r.Rule line

-- one more parameter; its own qualifier is no part of the function's type
abbrev pub with_parameter : Parameters → DeclaredType → Parameters
with_parameter ps p = record { types = ps.types ++ unqualified p.of ∷ []; depth = max ps.depth p.depth }

-- a parameter of a definition has a complete type and a name (3.7.1)
abbrev pub defined_parameter : List StructDef → ℕ → Bool → CType → Outcome (Unit {0})
defined_parameter structs line named of = if named && is_complete structs of then Ok tt else refuse r.Rule line

abbrev pub positive : ℕ → ℤ → Outcome ℕ
positive line (pos n) = if n == 0 then refuse r.Rule line else Ok n
positive line (negsuc n) = refuse r.Rule line

-- the size of an array is a number greater than 0 (3.5.4.2); its 32 bits stand for one of its type
abbrev pub array_size : ℕ → Int → ℕ → Outcome ℕ
array_size line i bits = positive line (number_of_low 32 (is_signed i) bits)
