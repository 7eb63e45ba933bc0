-- What is told of one of a list.
use Rattle.std.proofs.Common.{◌≡◌, ℕ, zero, suc, ◌<◌, ◌≤◌, List, [], ◌∷◌, length, get_or, set, map, Option, Some, None, ap, refl, ◌∙◌, subst, arith}
use Rattle.sc_outside.specs.Told.{IsTextTold}
use Rattle.sc_top.specs.Listed.{TellsAt}

pub told_at : {A : Type 0} (ps : List A) (report : A → Option (List ℕ)) (k : ℕ) (p : A) (text : List ℕ) → k < length ps → p ≡ get_or ps k p → IsTextTold (report p) text → TellsAt report ps k (Some text)
told_at [] report k p text within is told = absurd (omega (arith, within))
told_at (x ∷ ps) report zero p text within is told = subst (λ y. IsTextTold (report y) text) is told
told_at (x ∷ ps) report (suc k) p text within is told = told_at ps report k p text (omega (arith, within)) is told

pub none_at : {A : Type 0} (ps : List A) (report : A → Option (List ℕ)) (k : ℕ) → length ps ≤ k → TellsAt report ps k None
none_at [] report k beyond = refl
none_at (x ∷ ps) report zero beyond = absurd (omega (arith, beyond))
none_at (x ∷ ps) report (suc k) beyond = none_at ps report k (omega (arith, beyond))

-- one that is changed tells the same as before
pub same_at : {A B : Type 0} (ps : List A) (tells : A → B) (k : ℕ) (p q : A) → k < length ps → p ≡ get_or ps k p → tells q ≡ tells p → map tells (set ps k q) ≡ map tells ps
same_at [] tells k p q within is same = refl
same_at (x ∷ ps) tells zero p q within is same = ap (λ y. y ∷ map tells ps) (same ∙ ap tells is)
same_at (x ∷ ps) tells (suc k) p q within is same = ap (λ ys. tells x ∷ ys) (same_at ps tells k p q (omega (arith, within)) is same)
