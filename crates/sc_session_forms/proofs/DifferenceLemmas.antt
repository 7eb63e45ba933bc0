-- Files without a difference are the same.
use Rattle.std.proofs.Common.{◌≡◌, ◌<◌, ℕ, zero, suc, ◌+◌, ◌==◌, length, drop, if◌then◌else◌, true, false, Bool, List, [], ◌∷◌, Some, None, refl, ap₂, sym, arith}
use Rattle.std.proofs.lemmas.Bool.Decides.{nat_tests}
use Rattle.sc_session_forms.specs.Differences.{difference, difference_from}

same_number : (x y : ℕ) → (x == y) ≡ true → x ≡ y
same_number x y e = grind (arith, nat_tests)

same_step : (n x y : ℕ) (xs ys : List ℕ) (b : Bool) → b ≡ (x == y) → (if b then difference_from (n + 1) xs ys else Some n) ≡ None
    → (difference_from (n + 1) xs ys ≡ None → xs ≡ ys) → x ∷ xs ≡ y ∷ ys
same_step n x y xs ys true is none rest = ap₂ (λ h t. h ∷ t) (same_number x y (sym is)) (rest none)
same_step n x y xs ys false is none rest = absurd (cc)

same_from : (n : ℕ) (xs ys : List ℕ) → difference_from n xs ys ≡ None → xs ≡ ys
same_from n [] [] none = refl
same_from n [] (y ∷ ys) none = absurd (cc)
same_from n (x ∷ xs) [] none = absurd (cc)
same_from n (x ∷ xs) (y ∷ ys) none = same_step n x y xs ys (x == y) refl none (same_from (n + 1) xs ys)

pub same : (xs ys : List ℕ) → difference xs ys ≡ None → xs ≡ ys
same xs ys none = same_from 0 xs ys none

-- the right file ends first
pub ends_first : (n : ℕ) (xs : List ℕ) (i : ℕ) → i < length xs → difference_from n (drop i xs) [] ≡ Some n
ends_first n [] i inside = absurd (omega arith)
ends_first n (x ∷ xs) zero inside = refl
ends_first n (x ∷ xs) (suc i) inside = let less : i < length xs = omega arith in ends_first n xs i less

pub nothing : (xs : List ℕ) → length xs ≡ 0 → [] ≡ xs
nothing [] none = refl
nothing (x ∷ xs) none = absurd (omega arith)
