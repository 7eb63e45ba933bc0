-- Yardstick: to be compared with what it restates (docs/TRUST.md).
-- How many types a type is made of.
use Rattle.std.specs.Prelude.{ℕ, ◌+◌, nat_le, Bool, List, [], ◌∷◌}
use Rattle.sc_types.specs.declared.ctype.CType.{CType, fold-CType}
use Rattle.sc_types.specs.declared.ctype.CType.TheOpen.{CType-F, Signature-F}
use Rattle.sc_types.specs.declared.ctype.Signature.{Signature, fold-Signature}

abbrev pub sum : List ℕ → ℕ
sum [] = 0
sum (n ∷ ns) = n + sum ns

abbrev pub layer : CType-F ℕ ℕ → ℕ
layer (CType-F.Void c) = 1
layer (CType-F.Int i c) = 1
layer (CType-F.Pointer u c) = 1 + u
layer (CType-F.Array u n) = 1 + u
layer (CType-F.Struct id c) = 1
layer (CType-F.Function f) = 1 + f

abbrev pub signature_layer : Signature-F ℕ ℕ → ℕ
signature_layer f = f.result + sum f.params

-- itself, and all that stand in it: what stands there twice is counted twice
abbrev pub types_in : CType → ℕ
types_in = fold-CType ℕ ℕ layer signature_layer

-- those of what a function gives and takes
abbrev pub types_of : Signature → ℕ
types_of = fold-Signature ℕ ℕ layer signature_layer

-- a type is made of so many at most
abbrev pub most_types : ℕ
most_types = 1000

abbrev pub is_small : CType → Bool
is_small of = nat_le (types_in of) most_types
