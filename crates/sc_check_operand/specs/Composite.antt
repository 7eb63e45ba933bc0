-- Yardstick: to be compared with what it restates (docs/TRUST.md).
-- The composite type of two compatible types (ANSI 3.1.2.6).
use Rattle.std.specs.Prelude.{ℕ, ◌==◌, if◌then◌else◌, List, [], ◌∷◌, map}
use Rattle.sc_types.specs.declared.ctype.CType.{CType, out-CType, fold-CType}
use Rattle.sc_types.specs.declared.ctype.CType.TheVariants as t
use Rattle.sc_types.specs.declared.ctype.CType.TheOpen.{CType-F, Signature-F}
use Rattle.sc_types.specs.declared.ctype.Signature.{Signature}
use Rattle.sc_check_operand.specs.Types.{Level}

-- of two sizes of an array the one that is known
abbrev pub known_length : ℕ → ℕ → ℕ
known_length n m = if n == 0 then m else n

abbrev pub composite_level : CType-F (CType → CType) (Signature → Signature) → Level → CType → CType
composite_level (CType-F.Pointer f c) (CType-F.Pointer u d) of = t.Pointer (f u) d
composite_level (CType-F.Array f n) (CType-F.Array u m) of = t.Array (f u) (known_length n m)
composite_level (CType-F.Function f) (CType-F.Function g) of = t.Function (f g)
composite_level _ _ of = of

abbrev pub composites : List (CType → CType) → List CType → List CType
composites fs [] = []
composites [] (q ∷ qs) = []
composites (f ∷ fs) (q ∷ qs) = f q ∷ composites fs qs

abbrev pub composite_signature : Signature-F (CType → CType) (Signature → Signature) → Signature → Signature
composite_signature f g = record { result = f.result g.result; params = composites f.params g.params; variadic = g.variadic }

-- of the second type, with the array sizes that only the first has
abbrev pub composite : CType → CType → CType
composite a b = fold-CType (CType → CType) (Signature → Signature) (λ f u. composite_level f (out-CType u) u) composite_signature a b

-- each parameter with the one at its place
abbrev pub joined_parameters : List CType → List CType → List CType
joined_parameters ps qs = composites (map (λ p u. composite p u) ps) qs

abbrev pub joined_signature : Signature → Signature → Signature
joined_signature f g = record { result = composite f.result g.result; params = joined_parameters f.params g.params; variadic = g.variadic }
