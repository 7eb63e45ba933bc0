-- One, two and four cells in a row, read and written.
use Rattle.std.proofs.Common.{◌≡◌, ℕ, zero, suc, ◌+◌, ◌<◌, List, [], ◌∷◌, ◌++◌, length, take, drop, set, sym, ap, ◌∙◌, Some, arith}
use Rattle.std.specs.List.{slice_get}
use Rattle.std.proofs.lemmas.List.{take-append-drop, append-nil}
use Rattle.sc_cells.specs.Range.{range_of, with_range}
use Rattle.sc_cells.proofs.Ranges.{with_range-push}

pub drop-at : {A : Type 0} (xs : List A) (i : ℕ) (x : A) → slice_get xs i ≡ Some x → drop i xs ≡ x ∷ drop (i + 1) xs
drop-at [] i x h = absurd (cc)
drop-at (z ∷ zs) zero x h = let e : z ≡ x = cc in ap (λ y. y ∷ zs) e
drop-at (z ∷ zs) (suc i) x h = let e : suc i + 1 ≡ suc (i + 1) = omega arith in drop-at zs i x h ∙ ap (λ n. x ∷ drop n (z ∷ zs)) (sym e)

pub run-one : {A : Type 0} (xs : List A) (i : ℕ) (a : A) → slice_get xs i ≡ Some a → range_of xs i 1 ≡ a ∷ []
run-one xs i a h = ap (take 1) (drop-at xs i a h)

pub run-two : {A : Type 0} (xs : List A) (i : ℕ) (a b : A) → slice_get xs i ≡ Some a → slice_get xs (i + 1) ≡ Some b → range_of xs i 2 ≡ a ∷ b ∷ []
run-two xs i a b h g = ap (take 2) (drop-at xs i a h) ∙ ap (λ ys. a ∷ ys) (run-one xs (i + 1) b g)

pub run-four : {A : Type 0} (xs : List A) (i : ℕ) (a b c d : A) → slice_get xs i ≡ Some a → slice_get xs (i + 1) ≡ Some b → slice_get xs (i + 2) ≡ Some c → slice_get xs (i + 3) ≡ Some d → range_of xs i 4 ≡ a ∷ b ∷ c ∷ d ∷ []
run-four xs i a b c d h g f e =
    let two : i + 1 + 1 ≡ i + 2 = omega arith in
    let three : i + 2 + 1 ≡ i + 3 = omega arith in
    let last = run-two xs (i + 2) c d f (rw three e) in
    let middle : drop (i + 1) xs ≡ b ∷ drop (i + 2) xs = drop-at xs (i + 1) b g ∙ ap (λ n. b ∷ drop n xs) two in
    ap (take 4) (drop-at xs i a h) ∙ (ap (λ ys. a ∷ take 3 ys) middle ∙ ap (λ ys. a ∷ b ∷ ys) last)

pub no-range : {A : Type 0} (xs : List A) (i : ℕ) → with_range xs i [] ≡ xs
no-range xs i = let e : i + 0 ≡ i = omega arith in ap (λ n. take i xs ++ [] ++ drop n xs) e ∙ (ap (λ ys. ys ++ drop i xs) (append-nil (take i xs)) ∙ take-append-drop i xs)

pub put-one : {A : Type 0} (xs : List A) (i : ℕ) (a : A) → i < length xs → set xs i a ≡ with_range xs i (a ∷ [])
put-one xs i a h =
    let e : i + 0 ≡ i = omega arith in
    ap (λ ys. set ys i a) (sym (no-range xs i)) ∙ (ap (λ n. set (with_range xs i []) n a) (sym e) ∙ with_range-push xs i [] a (omega arith))

pub put-two : {A : Type 0} (xs : List A) (i : ℕ) (a b : A) → i + 1 < length xs → set (set xs i a) (i + 1) b ≡ with_range xs i (a ∷ b ∷ [])
put-two xs i a b h = ap (λ ys. set ys (i + 1) b) (put-one xs i a (omega arith)) ∙ with_range-push xs i (a ∷ []) b h

pub put-four : {A : Type 0} (xs : List A) (i : ℕ) (a b c d : A) → i + 3 < length xs → set (set (set (set xs i a) (i + 1) b) (i + 2) c) (i + 3) d ≡ with_range xs i (a ∷ b ∷ c ∷ d ∷ [])
put-four xs i a b c d h =
    ap (λ ys. set (set ys (i + 2) c) (i + 3) d) (put-two xs i a b (omega arith))
    ∙ (ap (λ ys. set ys (i + 3) d) (with_range-push xs i (a ∷ b ∷ []) c (omega arith)) ∙ with_range-push xs i (a ∷ b ∷ c ∷ []) d h)
