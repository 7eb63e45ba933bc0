-- Inside: plumbing, a representation, an invariant or a promise beside the claim (docs/TRUST.md).
-- The numbers of structures in a type.
use Rattle.std.specs.Prelude.{ℕ, nat_lt, Bool, true, ◌&&◌, List, [], ◌∷◌, length, Option, Some, None}
use Rattle.sc_types.specs.declared.ctype.CType.{CType, fold-CType}
use Rattle.sc_types.specs.declared.ctype.CType.TheOpen.{CType-F, Signature-F}
use Rattle.sc_types.specs.declared.ctype.Signature.{Signature, fold-Signature}
use Rattle.sc_types.specs.declared.ctype.Member.{Member}
use Rattle.sc_types.specs.declared.ctype.StructDef.{StructDef}

abbrev pub all : List Bool → Bool
all [] = true
all (b ∷ bs) = b && all bs

abbrev pub layer : ℕ → CType-F Bool Bool → Bool
layer count (CType-F.Void c) = true
layer count (CType-F.Int i c) = true
layer count (CType-F.Pointer u c) = u
layer count (CType-F.Array u n) = u
layer count (CType-F.Struct id c) = nat_lt id count
layer count (CType-F.Function f) = f

abbrev pub signature_layer : Signature-F Bool Bool → Bool
signature_layer f = f.result && all f.params

-- each structure and each union in a type is one of the first so many
abbrev pub is_below : ℕ → CType → Bool
is_below count = fold-CType Bool Bool (layer count) signature_layer

abbrev pub signature_below : ℕ → Signature → Bool
signature_below count = fold-Signature Bool Bool (layer count) signature_layer

-- Each structure number in a type is one of the table.
abbrev pub is_known : List StructDef → CType → Bool
is_known structs of = is_below (length structs) of

abbrev pub signature_known : List StructDef → Signature → Bool
signature_known structs f = signature_below (length structs) f

abbrev pub members_known : List StructDef → List Member → Bool
members_known structs [] = true
members_known structs (m ∷ ms) = is_known structs m.of && members_known structs ms

abbrev pub parts_known : List StructDef → Option (List Member) → Bool
parts_known structs None = true
parts_known structs (Some ms) = members_known structs ms

abbrev pub table_known : List StructDef → List StructDef → Bool
table_known structs [] = true
table_known structs (d ∷ ds) = parts_known structs d.members && table_known structs ds
