-- What a list has at a place after an element is added or replaced, and tests of numbers as keys.
use Rattle.std.proofs.Common.{◌≡◌, ◌≢◌, ◌⊎◌, inl, inr, ℕ, zero, suc, ◌<◌, ◌≤◌, true, false, List, [], ◌∷◌, ◌++◌, length, set, refl, ap, Some, arith}
use Rattle.std.specs.List.{slice_get}
use Rattle.std.specs.Ordering.{nat_cmp, is_gt}
use Rattle.std.specs.BTreeMap.{is_at}
use Rattle.std.proofs.lemmas.Bool.Decides.{nat_tests}

pub slice_get-front : {X : Type 0} (xs ys : List X) (i : ℕ) (x : X) → slice_get xs i ≡ Some x → slice_get (xs ++ ys) i ≡ Some x
slice_get-front [] ys i x h = absurd (cc)
slice_get-front (z ∷ zs) ys zero x h = h
slice_get-front (z ∷ zs) ys (suc i) x h = slice_get-front zs ys i x h

pub slice_get-last : {X : Type 0} (xs : List X) (x : X) → slice_get (xs ++ x ∷ []) (length xs) ≡ Some x
slice_get-last [] x = refl
slice_get-last (z ∷ zs) x = slice_get-last zs x

pub slice_get-push : {X : Type 0} (xs : List X) (x : X) (i : ℕ) (y : X) → slice_get (xs ++ x ∷ []) i ≡ Some y → ((slice_get xs i ≡ Some y) × (i < length xs)) ⊎ ((i ≡ length xs) × (y ≡ x))
slice_get-push [] x zero y h = inr (refl, cc)
slice_get-push [] x (suc i) y h = absurd (cc)
slice_get-push (z ∷ zs) x zero y h = inl (h, omega arith)
slice_get-push (z ∷ zs) x (suc i) y h = elim (slice_get-push zs x i y h) [ inl p ↦ inl (p.0, omega arith) | inr p ↦ inr (ap suc p.0, p.1) ]

pub slice_get-set : {X : Type 0} (xs : List X) (i j : ℕ) (x y : X) → slice_get (set xs i x) j ≡ Some y → ((j ≡ i) × (y ≡ x)) ⊎ ((j ≢ i) × (slice_get xs j ≡ Some y))
slice_get-set [] i j x y h = absurd (cc)
slice_get-set (z ∷ zs) zero zero x y h = inl (refl, cc)
slice_get-set (z ∷ zs) zero (suc j) x y h = inr ((λ e. omega arith), h)
slice_get-set (z ∷ zs) (suc i) zero x y h = inr ((λ e. omega arith), h)
slice_get-set (z ∷ zs) (suc i) (suc j) x y h = elim (slice_get-set zs i j x y h) [ inl p ↦ inl (ap suc p.0, p.1) | inr p ↦ inr ((λ e. p.0 (omega arith)), p.1) ]

pub slice_get-set_other : {X : Type 0} (xs : List X) (i j : ℕ) (x y : X) → j ≢ i → slice_get xs j ≡ Some y → slice_get (set xs i x) j ≡ Some y
slice_get-set_other [] i j x y n h = absurd (cc)
slice_get-set_other (z ∷ zs) zero zero x y n h = absurd (n refl)
slice_get-set_other (z ∷ zs) zero (suc j) x y n h = h
slice_get-set_other (z ∷ zs) (suc i) zero x y n h = h
slice_get-set_other (z ∷ zs) (suc i) (suc j) x y n h = slice_get-set_other zs i j x y (λ e. n (ap suc e)) h

pub slice_get-set_same : {X : Type 0} (xs : List X) (i : ℕ) (x : X) → i < length xs → slice_get (set xs i x) i ≡ Some x
slice_get-set_same [] i x h = absurd (omega arith)
slice_get-set_same (z ∷ zs) zero x h = refl
slice_get-set_same (z ∷ zs) (suc i) x h = slice_get-set_same zs i x (omega arith)

pub is_at-apart : (x y : ℕ) → x ≢ y → is_at (nat_cmp x) y ≡ false
is_at-apart x y n = grind (arith, nat_tests)

pub not_gt-le : (x y : ℕ) → x ≤ y → is_gt (nat_cmp x y) ≡ false
not_gt-le x y h = grind (arith, nat_tests)

pub is_at-same : (x y : ℕ) → x ≡ y → is_at (nat_cmp x) y ≡ true
is_at-same x y e = grind (arith, nat_tests)
