-- What a list has at a place after something is added or replaced, and parts of lists.
use Rattle.std.proofs.Common.{◌≡◌, ◌≢◌, ◌⊎◌, inl, inr, ℕ, zero, suc, ◌+◌, ◌<◌, ◌≤◌, List, [], ◌∷◌, ◌++◌, length, take, drop, set, replicate, refl, sym, ap, ◌∙◌, Some, arith}
use Rattle.std.specs.List.{slice_get}
use Rattle.std.proofs.lemmas.Bool.{cases_lt}
use Rattle.std.proofs.lemmas.Option.{slice_get_past, slice_get_within, slice_get-get_or, get_or_from_slice_get}
use Rattle.std.proofs.lemmas.List.{get_or-replicate, length-replicate, get_or-take, get_or-drop, length-take, length-drop}
use Rattle.sc_cells.specs.Range.{with_range}
use Rattle.sc_cells.proofs.Ranges.{length-with_range, with_range-before, with_range-in, with_range-after}

pub get-left : {A : Type 0} (xs ys : List A) (i : ℕ) → i < length xs → slice_get (xs ++ ys) i ≡ slice_get xs i
get-left [] ys i h = absurd (omega arith)
get-left (x ∷ xs) ys zero h = refl
get-left (x ∷ xs) ys (suc i) h = get-left xs ys i (omega arith)

pub get-other : {A : Type 0} (xs : List A) (i j : ℕ) (x : A) → j ≢ i → slice_get (set xs i x) j ≡ slice_get xs j
get-other [] i j x n = refl
get-other (z ∷ zs) zero zero x n = absurd (n refl)
get-other (z ∷ zs) zero (suc j) x n = refl
get-other (z ∷ zs) (suc i) zero x n = refl
get-other (z ∷ zs) (suc i) (suc j) x n = get-other zs i j x (λ e. n (ap suc e))

pub set-twice : {A : Type 0} (xs : List A) (i : ℕ) (x y : A) → set (set xs i x) i y ≡ set xs i y
set-twice [] i x y = refl
set-twice (z ∷ zs) zero x y = refl
set-twice (z ∷ zs) (suc i) x y = ap (λ ys. z ∷ ys) (set-twice zs i x y)

pub set-same : {A : Type 0} (xs : List A) (i : ℕ) (x : A) → slice_get xs i ≡ Some x → set xs i x ≡ xs
set-same [] i x h = absurd (cc)
set-same (z ∷ zs) zero x h = let e : z ≡ x = cc in ap (λ y. y ∷ zs) (sym e)
set-same (z ∷ zs) (suc i) x h = ap (λ ys. z ∷ ys) (set-same zs i x h)

pub get-replicate : {A : Type 0} (n i : ℕ) (a : A) → i < n → slice_get (replicate n a) i ≡ Some a
get-replicate n i a h = slice_get-get_or (replicate n a) i a (rw (length-replicate n a) h) ∙ ap Some (get_or-replicate n i a a h)

pub from-replicate : {A : Type 0} (n i : ℕ) (a x : A) → slice_get (replicate n a) i ≡ Some x → (i < n) × (a ≡ x)
from-replicate n i a x h =
    let within : i < n = rw (length-replicate n a) at (slice_get_within (replicate n a) i x h) in
    (within, sym (get_or-replicate n i a a within) ∙ get_or_from_slice_get (replicate n a) i x a h)

-- a part of a list is replaced
pub get-within : {A : Type 0} (xs : List A) (at : ℕ) (part : List A) (j : ℕ) (x : A) → at + length part ≤ length xs → slice_get part j ≡ Some x → slice_get (with_range xs at part) (at + j) ≡ Some x
get-within xs at part j x h e =
    let within = slice_get_within part j x e in
    slice_get-get_or (with_range xs at part) (at + j) x (rw (length-with_range xs at part h) (omega arith))
    ∙ ap Some (with_range-in xs at part j x h within ∙ get_or_from_slice_get part j x x e)

pub get-outside : {A : Type 0} (xs : List A) (at : ℕ) (part : List A) (j : ℕ) → at + length part ≤ length xs → (j < at) ⊎ (at + length part ≤ j) → slice_get (with_range xs at part) j ≡ slice_get xs j
get-outside [] at part j h far = slice_get_past (with_range [] at part) j (rw (length-with_range [] at part h) (omega arith)) ∙ sym (slice_get_past [] j (omega arith))
get-outside (z ∷ zs) at part j h far =
    let xs = z ∷ zs in
    let size = length-with_range xs at part h in
    elim (cases_lt j (length xs)) [
      | inl l ↦
          slice_get-get_or (with_range xs at part) j z (rw size l)
          ∙ (ap Some (elim far [ inl a ↦ with_range-before xs at part j z h a | inr b ↦ with_range-after xs at part j z h b ])
          ∙ sym (slice_get-get_or xs j z l))
      | inr g ↦ slice_get_past (with_range xs at part) j (rw size g) ∙ sym (slice_get_past xs j g)
    ]

-- n elements from a place on
pub get-range : {A : Type 0} (xs : List A) (at n i : ℕ) (x : A) → slice_get (take n (drop at xs)) i ≡ Some x → slice_get xs (at + i) ≡ Some x
get-range xs at n i x h =
    let few = slice_get_within (take n (drop at xs)) i x h in
    let size = length-take n (drop at xs) in
    let rest = length-drop at xs in
    let low : i < n = omega arith in
    let high : at + i < length xs = omega arith in
    slice_get-get_or xs (at + i) x high
    ∙ ap Some (sym (get_or-drop at xs i x) ∙ (sym (get_or-take n (drop at xs) i x low) ∙ get_or_from_slice_get (take n (drop at xs)) i x x h))

pub get-front : {A : Type 0} (xs : List A) (n i : ℕ) (x : A) → slice_get (take n xs) i ≡ Some x → slice_get xs i ≡ Some x
get-front xs n i x h =
    let few = slice_get_within (take n xs) i x h in
    let size = length-take n xs in
    let low : i < n = omega arith in
    let high : i < length xs = omega arith in
    slice_get-get_or xs i x high ∙ ap Some (sym (get_or-take n xs i x low) ∙ get_or_from_slice_get (take n xs) i x x h)
