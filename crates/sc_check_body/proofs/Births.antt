-- Literals that are noted one by one.
use Rattle.std.proofs.Common.{◌≡◌, ℕ, suc, ◌+◌, ◌-◌, ◌<◌, List, [], ◌∷◌, ◌++◌, map, ◌∙◌, ap, append_assoc, arith}
use Rattle.std.specs.List.{range_with_len}
use Rattle.sc_check_linkage.specs.declared.births.Birth.{Birth}
use Rattle.sc_check_linkage.specs.declared.births.Birth.TheVariants as birth
use Rattle.sc_check_body.specs.Progress.{literals}

next : (a b : ℕ) → a < b → birth.Literal a ∷ literals (a + 1) b ≡ literals a b
next a b h =
    let e : suc (b - (a + 1)) ≡ b - a = omega (arith, h) in
    ap (λ (n : ℕ). map (λ k. birth.Literal k) (range_with_len a n)) e

-- one more is noted
pub one_more : (xs : List Birth) (a b : ℕ) → a < b → (xs ++ birth.Literal a ∷ []) ++ literals (a + 1) b ≡ xs ++ literals a b
one_more xs a b h = append_assoc xs (birth.Literal a ∷ []) (literals (a + 1) b) ∙ ap (λ (ys : List Birth). xs ++ ys) (next a b h)
