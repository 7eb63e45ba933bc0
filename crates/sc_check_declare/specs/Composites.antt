-- Yardstick: to be compared with what it restates (docs/TRUST.md).
-- The composite of two compatible types (ANSI 3.1.2.6).
use Rattle.std.specs.Prelude.{max, List, [], ◌∷◌, map}
use Rattle.sc_types.specs.declared.ctype.CType.{CType, fold-CType, out-CType}
use Rattle.sc_types.specs.declared.ctype.CType.TheVariants as t
use Rattle.sc_types.specs.declared.ctype.CType.TheOpen.{CType-F, Signature-F}
use Rattle.sc_types.specs.declared.ctype.Signature.{Signature}

-- Each part joins with the one at its place, and the known size of an array is taken. What has no parts is the same on both
-- sides.
abbrev pub join : CType-F (CType → CType) (Signature → Signature) → CType → CType-F CType Signature → CType
join (CType-F.Pointer f c) b (CType-F.Pointer u d) = t.Pointer (f u) c
join (CType-F.Array f n) b (CType-F.Array u m) = t.Array (f u) (max n m)
join (CType-F.Function f) b (CType-F.Function s) = t.Function (f s)
join _ b _ = b

-- as many as both have
abbrev pub join_all : List (CType → CType) → List CType → List CType
join_all ps [] = []
join_all [] (q ∷ qs) = []
join_all (p ∷ ps) (q ∷ qs) = p q ∷ join_all ps qs

abbrev pub join_signature : Signature-F (CType → CType) (Signature → Signature) → Signature → Signature
join_signature f s = record { result = f.result s.result; params = join_all f.params s.params; variadic = s.variadic }

abbrev pub composite : CType → CType → CType
composite = fold-CType (CType → CType) (Signature → Signature) (λ f b. join f b (out-CType b)) join_signature

-- the same of lists of parameters, and of functions
abbrev pub parameters : List CType → List CType → List CType
parameters ps qs = join_all (map composite ps) qs

abbrev pub signature : Signature → Signature → Signature
signature f g = record { result = composite f.result g.result; params = parameters f.params g.params; variadic = g.variadic }
