-- Yardstick: to be compared with what it restates (docs/TRUST.md).
-- Which types are compatible (ANSI 3.1.2.6, 3.5.2.1, 3.5.3, 3.5.4.2, 3.5.4.3).
use Rattle.std.specs.Prelude.{ℕ, zero, suc, ◌==◌, Bool, true, false, not, ◌&&◌, ◌||◌, List, [], ◌∷◌, length, map, slice_get, Option, Some, None}
use Rattle.std.specs.Str.{bytes_eq}
use Rattle.sc_base.specs.declared.integer.Int.{Int}
use Rattle.sc_base.specs.declared.integer.Int.TheVariants as int
use Rattle.sc_types.specs.declared.ctype.CType.{CType, fold-CType, out-CType}
use Rattle.sc_types.specs.declared.ctype.CType.TheOpen.{CType-F, Signature-F}
use Rattle.sc_types.specs.declared.ctype.Signature.{Signature}
use Rattle.sc_types.specs.declared.ctype.Member.{Member}
use Rattle.sc_types.specs.declared.ctype.StructDef.{StructDef}

abbrev pub rank : Int → ℕ
rank int.Char = 0
rank int.SChar = 1
rank int.UChar = 2
rank int.Short = 3
rank int.UShort = 4
rank int.Int = 5
rank int.UInt = 6
rank int.Long = 7
rank int.ULong = 8

-- the three character types, and `int` and `long`, differ though they are stored alike
abbrev pub same_int : Int → Int → Bool
same_int i j = rank i == rank j

abbrev pub same_bool : Bool → Bool → Bool
same_bool true b = b
same_bool false b = not b

-- the same qualifiers, where those of the type itself count
abbrev pub same_const : Bool → Bool → Bool → Bool
same_const true c d = same_bool c d
same_const false c d = true

-- an array of unknown size goes with any size
abbrev pub same_length : ℕ → ℕ → Bool
same_length n m = n == m || n == 0 || m == 0

-- which structures of two tables go together
abbrev pub Pairs : Type 0
Pairs = ℕ → ℕ → Bool

-- a type as the test that it makes of another: `here` is for structures that are there by value, and the truth value
-- says whether the type's own qualifier counts
abbrev pub Test : Type 0
Test = Pairs → Bool → CType → Bool

-- in a pointer's target, and in a function's type, structures go together by `behind`
abbrev pub level : Pairs → CType-F Test (Signature → Bool) → Pairs → Bool → CType-F CType Signature → Bool
level behind (CType-F.Void c) here own (CType-F.Void d) = same_const own c d
level behind (CType-F.Int i c) here own (CType-F.Int j d) = same_int i j && same_const own c d
level behind (CType-F.Pointer t c) here own (CType-F.Pointer u d) = same_const own c d && t behind true u
level behind (CType-F.Array t n) here own (CType-F.Array u m) = same_length n m && t here true u
level behind (CType-F.Struct i c) here own (CType-F.Struct j d) = same_const own c d && here i j
level behind (CType-F.Function f) here own (CType-F.Function g) = f g
level behind _ here own _ = false

-- the same number of parameters, each compatible without its own qualifier
abbrev pub parameters : Pairs → List Test → List CType → Bool
parameters behind [] [] = true
parameters behind (p ∷ ps) (q ∷ qs) = p behind false q && parameters behind ps qs
parameters behind _ _ = false

abbrev pub signature : Pairs → Signature-F Test (Signature → Bool) → Signature → Bool
signature behind f g = same_bool f.variadic g.variadic && f.result behind true g.result && parameters behind f.params g.params

abbrev pub alike : Pairs → Pairs → Bool → CType → CType → Bool
alike behind here own a b = fold-CType Test (Signature → Bool) (λ f h o u. level behind f h o (out-CType u)) (signature behind) a here own b

-- equal tags, or none on both sides
abbrev pub same_tag : Option (List ℕ) → Option (List ℕ) → Bool
same_tag None None = true
same_tag (Some a) (Some b) = bytes_eq a b
same_tag _ _ = false

-- two structures or two unions
abbrev pub same_kind : StructDef → StructDef → Bool
same_kind d e = same_bool d.is_union e.is_union

abbrev pub tags_of : Option StructDef → Option StructDef → Bool
tags_of (Some d) (Some e) = same_kind d e && same_tag d.tag e.tag
tags_of _ _ = false

-- across tables, behind a pointer
abbrev pub by_tag : List StructDef → List StructDef → Pairs
by_tag s t i j = tags_of (slice_get s i) (slice_get t j)

abbrev pub same_member : (CType → CType → Bool) → Member → Member → Bool
same_member test m n = bytes_eq m.name n.name && test m.of n.of

abbrev pub same_members : (CType → CType → Bool) → List Member → List Member → Bool
same_members test [] [] = true
same_members test (m ∷ ms) (n ∷ ns) = same_member test m n && same_members test ms ns
same_members test _ _ = false

-- where one is incomplete, the tags decide
abbrev pub contents : (CType → CType → Bool) → Option (List Member) → Option (List Member) → Bool
contents test (Some ms) (Some ns) = same_members test ms ns
contents test _ _ = true

abbrev pub definitions : (CType → CType → Bool) → Option StructDef → Option StructDef → Bool
definitions test (Some d) (Some e) = same_kind d e && same_tag d.tag e.tag && contents test d.members e.members
definitions test _ _ = false

-- across tables, by value, where at most n structures are inside one another
abbrev pub by_members : ℕ → List StructDef → List StructDef → Pairs
by_members zero s t i j = false
by_members (suc n) s t i j = definitions (alike (by_tag s t) (by_members n s t) true) (slice_get s i) (slice_get t j)

abbrev pub by_value : ℕ → List StructDef → List StructDef → CType → CType → Bool
by_value n s t = alike (by_tag s t) (by_members n s t) true

abbrev pub by_number : Pairs
by_number i j = i == j

-- behind a pointer
abbrev pub sides : Bool → List StructDef → List StructDef → Pairs
sides true s t = by_number
sides false s t = by_tag s t

-- Inside one module a structure or a union goes with itself alone. Across modules, a and b are of the tables s and t; no
-- structure is inside itself, so no more are inside one another than there are.
abbrev pub compatible : CType → List StructDef → CType → List StructDef → Bool → Bool
compatible a s b t true = alike (sides true s t) (sides true s t) true a b
compatible a s b t false = alike (sides false s t) (by_members (length s) s t) true a b

-- each parameter against the one at its place
abbrev pub same_parameters : Pairs → List CType → List CType → Bool
same_parameters behind ps qs = parameters behind (map (λ p here own u. alike behind here own p u) ps) qs

abbrev pub same_signature : Pairs → Signature → Signature → Bool
same_signature behind f g = same_bool f.variadic g.variadic && alike behind behind true f.result g.result && same_parameters behind f.params g.params
