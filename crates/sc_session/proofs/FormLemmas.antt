-- A list of which one element after another is changed in its place.
use Rattle.std.proofs.Common.{◌≡◌, ◌<◌, ◌≤◌, ℕ, zero, suc, List, [], ◌∷◌, ◌++◌, length, take, drop, map, get_or, set, refl, ap, arith}

pub turned : {A : Type 0} (f : A → A) (xs : List A) (i : ℕ) (d : A) → i < length xs
    → take (suc i) (set xs i (f (get_or xs i d))) ++ map f (drop (suc i) (set xs i (f (get_or xs i d)))) ≡ take i xs ++ map f (drop i xs)
turned f [] i d inside = absurd (omega arith)
turned f (x ∷ xs) zero d inside = refl
turned f (x ∷ xs) (suc i) d inside = let less : i < length xs = omega arith in ap (λ r. x ∷ r) (turned f xs i d less)

pub all_turned : {A : Type 0} (f : A → A) (xs : List A) (i : ℕ) → length xs ≤ i → take i xs ++ map f (drop i xs) ≡ xs
all_turned f [] zero all = refl
all_turned f [] (suc i) all = refl
all_turned f (x ∷ xs) zero all = absurd (omega arith)
all_turned f (x ∷ xs) (suc i) all = let less : length xs ≤ i = omega arith in ap (λ r. x ∷ r) (all_turned f xs i less)
