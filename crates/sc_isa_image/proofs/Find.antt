-- Lists with one element more or less, and what is found in them.
use Rattle.std.proofs.Common.{◌≡◌, ◌≢◌, ◌⊎◌, inl, inr, ℕ, zero, suc, ◌+◌, ◌<◌, ◌≤◌, Bool, true, false, cond, List, [], ◌∷◌, length, set, refl, sym, ap, ◌∙◌, Option, Some, None, find, arith, true≢false}
use Rattle.std.specs.List.{slice_get, insert, remove}

module _ {A : Type 0} where
  -- no element passes
  abbrev pub Fails : (A → Bool) → List A → Type 0
  Fails p xs = (k : ℕ) (u : A) → slice_get xs k ≡ Some u → p u ≡ false

  -- no element passes but the one at a place
  abbrev pub FailsBut : (A → Bool) → List A → ℕ → Type 0
  FailsBut p xs i = (k : ℕ) (u : A) → slice_get xs k ≡ Some u → k ≢ i → p u ≡ false

  pub find-none : (p : A → Bool) (xs : List A) → Fails p xs → find p xs ≡ None
  find-none p [] f = refl
  find-none p (x ∷ xs) f = ap (λ b. cond b (Some x) (find p xs)) (f zero x refl) ∙ find-none p xs (λ k. f (suc k))

  pub find-only : (p : A → Bool) (xs : List A) (i : ℕ) (t : A) → slice_get xs i ≡ Some t → p t ≡ true → FailsBut p xs i → find p xs ≡ Some t
  find-only p [] i t h g f = absurd (cc)
  find-only p (x ∷ xs) zero t h g f = let e : x ≡ t = cc in ap (λ b. cond b (Some x) (find p xs)) (ap p e ∙ g) ∙ ap Some e
  find-only p (x ∷ xs) (suc i) t h g f =
      ap (λ b. cond b (Some x) (find p xs)) (f zero x refl (λ e. absurd (omega arith)))
      ∙ find-only p xs i t h g (λ k u at ne. f (suc k) u at (λ e. ne (omega arith)))

  cond-same : (b : Bool) (t : A) (r s : Option A) → (b ≡ false → r ≡ s) → cond b (Some t) r ≡ cond b (Some t) s
  cond-same true t r s h = refl
  cond-same false t r s h = h refl

  -- a test that fails, before another one
  swap-cond : (a b : Bool) (x t : A) (r : Option A) → (b ≡ true → a ≡ false) → cond a (Some x) (cond b (Some t) r) ≡ cond b (Some t) (cond a (Some x) r)
  swap-cond true true x t r h = absurd (true≢false (h refl))
  swap-cond true false x t r h = refl
  swap-cond false b x t r h = refl

  pub find-insert : (p : A → Bool) (xs : List A) (r : ℕ) (t : A) → (p t ≡ true → Fails p xs) → find p (insert xs r t) ≡ cond (p t) (Some t) (find p xs)
  find-insert p [] zero t f = refl
  find-insert p [] (suc r) t f = refl
  find-insert p (x ∷ xs) zero t f = refl
  find-insert p (x ∷ xs) (suc r) t f =
      ap (cond (p x) (Some x)) (find-insert p xs r t (λ h k. f h (suc k))) ∙ swap-cond (p x) (p t) x t (find p xs) (λ h. f h zero x refl)

  pub find-remove : (p : A → Bool) (xs : List A) (i : ℕ) (t : A) → slice_get xs i ≡ Some t → (p t ≡ true → FailsBut p xs i) → find p (remove xs i) ≡ cond (p t) None (find p xs)
  find-remove p [] i t h f = absurd (cc)
  find-remove p (x ∷ xs) zero t h f = let e : x ≡ t = cc in by (p t) refl e
    where
      by : (b : Bool) → p t ≡ b → x ≡ t → find p xs ≡ cond b None (cond (p x) (Some x) (find p xs))
      by true g e = find-none p xs (λ k u at. f g (suc k) u at (λ z. absurd (omega arith)))
      by false g e = sym (ap (λ b. cond b (Some x) (find p xs)) (ap p e ∙ g))
  find-remove p (x ∷ xs) (suc i) t h f = by (p t) refl (find-remove p xs i t h (λ g k u at ne. f g (suc k) u at (λ e. ne (omega arith))))
    where
      by : (b : Bool) → p t ≡ b → find p (remove xs i) ≡ cond (p t) None (find p xs) → cond (p x) (Some x) (find p (remove xs i)) ≡ cond b None (cond (p x) (Some x) (find p xs))
      by true g rest = ap (λ b. cond b (Some x) (find p (remove xs i))) (f g zero x refl (λ z. absurd (omega arith))) ∙ (rest ∙ ap (λ b. cond b None (find p xs)) g)
      by false g rest = ap (cond (p x) (Some x)) (rest ∙ ap (λ b. cond b None (find p xs)) g)

  -- what replaces an element, where both pass or neither does
  pub find-set : (p : A → Bool) (xs : List A) (i : ℕ) (t u : A) → slice_get xs i ≡ Some t → p u ≡ p t → (p t ≡ true → FailsBut p xs i) → find p (set xs i u) ≡ cond (p t) (Some u) (find p xs)
  find-set p [] i t u h same f = absurd (cc)
  find-set p (x ∷ xs) zero t u h same f = let e : x ≡ t = cc in by (p t) refl e
    where
      by : (b : Bool) → p t ≡ b → x ≡ t → cond (p u) (Some u) (find p xs) ≡ cond b (Some u) (cond (p x) (Some x) (find p xs))
      by true g e = ap (λ b. cond b (Some u) (find p xs)) (same ∙ g)
      by false g e = ap (λ b. cond b (Some u) (find p xs)) (same ∙ g) ∙ sym (ap (λ b. cond b (Some x) (find p xs)) (ap p e ∙ g))
  find-set p (x ∷ xs) (suc i) t u h same f =
      ap (cond (p x) (Some x)) (find-set p xs i t u h same (λ g k v at ne. f g (suc k) v at (λ e. ne (omega arith))))
      ∙ swap-cond (p x) (p t) x u (find p xs) (λ g. f g zero x refl (λ z. absurd (omega arith)))

  -- where an element of the longer list stands in the shorter one
  abbrev pub InsertedAt : List A → ℕ → A → ℕ → A → Type 0
  InsertedAt xs r t k u = ((k < r) × (slice_get xs k ≡ Some u)) ⊎ (((k ≡ r) × (u ≡ t)) ⊎ ((j : ℕ) × (k ≡ j + 1) × (r ≤ j) × (slice_get xs j ≡ Some u)))

  pub get-insert : (xs : List A) (r : ℕ) (t : A) (k : ℕ) (u : A) → r ≤ length xs → slice_get (insert xs r t) k ≡ Some u → InsertedAt xs r t k u
  get-insert [] zero t zero u l h = inr (inl (refl, cc))
  get-insert [] zero t (suc k) u l h = absurd (cc)
  get-insert [] (suc r) t k u l h = absurd (omega arith)
  get-insert (x ∷ xs) zero t zero u l h = inr (inl (refl, cc))
  get-insert (x ∷ xs) zero t (suc k) u l h = inr (inr (k, omega arith, omega arith, h))
  get-insert (x ∷ xs) (suc r) t zero u l h = inl (omega arith, h)
  get-insert (x ∷ xs) (suc r) t (suc k) u l h = elim (get-insert xs r t k u (omega arith) h) [
    | inl a ↦ inl (omega arith, a.1)
    | inr b ↦ elim b [ inl c ↦ inr (inl (omega arith, c.1)) | inr c ↦ inr (inr (suc c.0, omega arith, omega arith, c.3)) ]
  ]

  abbrev pub RemovedAt : List A → ℕ → ℕ → A → Type 0
  RemovedAt xs i k u = ((k < i) × (slice_get xs k ≡ Some u)) ⊎ ((i ≤ k) × (slice_get xs (suc k) ≡ Some u))

  pub get-remove : (xs : List A) (i k : ℕ) (u : A) → slice_get (remove xs i) k ≡ Some u → RemovedAt xs i k u
  get-remove [] zero k u h = absurd (cc)
  get-remove [] (suc i) k u h = absurd (cc)
  get-remove (x ∷ xs) zero k u h = inr (omega arith, h)
  get-remove (x ∷ xs) (suc i) zero u h = inl (omega arith, h)
  get-remove (x ∷ xs) (suc i) (suc k) u h = elim (get-remove xs i k u h) [
    | inl a ↦ inl (omega arith, a.1)
    | inr a ↦ inr (omega arith, a.1)
  ]

  pub get-set : (xs : List A) (i : ℕ) (t : A) (k : ℕ) (u : A) → slice_get (set xs i t) k ≡ Some u → ((k ≡ i) × (u ≡ t)) ⊎ ((k ≢ i) × (slice_get xs k ≡ Some u))
  get-set [] i t k u h = absurd (cc)
  get-set (x ∷ xs) zero t zero u h = inl (refl, cc)
  get-set (x ∷ xs) zero t (suc k) u h = inr ((λ e. absurd (omega arith)), h)
  get-set (x ∷ xs) (suc i) t zero u h = inr ((λ e. absurd (omega arith)), h)
  get-set (x ∷ xs) (suc i) t (suc k) u h = elim (get-set xs i t k u h) [
    | inl a ↦ inl (omega arith, a.1)
    | inr a ↦ inr ((λ e. a.0 (omega arith)), a.1)
  ]

  -- a relation of each element with each later one
  abbrev pub Pairwise : (A → A → Type 0) → List A → Type 0
  Pairwise R xs = (i j : ℕ) (t u : A) → slice_get xs i ≡ Some t → slice_get xs j ≡ Some u → i < j → R t u

module _ {A : Type 0} (R : A → A → Type 0) where
  pub Pairwise-insert : (xs : List A) (r : ℕ) (t : A) → r ≤ length xs → Pairwise R xs → ((k : ℕ) (u : A) → slice_get xs k ≡ Some u → k < r → R u t) → ((k : ℕ) (u : A) → slice_get xs k ≡ Some u → r ≤ k → R t u) → Pairwise R (insert xs r t)
  Pairwise-insert xs r t l all below above i j x y hi hj lt = elim (get-insert xs r t i x l hi) [
    | inl a ↦ elim (get-insert xs r t j y l hj) [
      | inl b ↦ all i j x y a.1 b.1 lt
      | inr b ↦ elim b [ inl c ↦ rw c.1 (below i x a.1 a.0) | inr c ↦ all i c.0 x y a.1 c.3 (omega arith) ]
    ]
    | inr a ↦ elim a [
      | inl c ↦ elim (get-insert xs r t j y l hj) [
        | inl b ↦ absurd (omega arith)
        | inr b ↦ elim b [ inl d ↦ absurd (omega arith) | inr d ↦ rw c.1 (above d.0 y d.3 d.2) ]
      ]
      | inr c ↦ elim (get-insert xs r t j y l hj) [
        | inl b ↦ absurd (omega arith)
        | inr b ↦ elim b [ inl d ↦ absurd (omega arith) | inr d ↦ all c.0 d.0 x y c.3 d.3 (omega arith) ]
      ]
    ]
  ]

  pub Pairwise-remove : (xs : List A) (r : ℕ) → Pairwise R xs → Pairwise R (remove xs r)
  Pairwise-remove xs r all i j x y hi hj lt = elim (get-remove xs r i x hi) [
    | inl a ↦ elim (get-remove xs r j y hj) [ inl b ↦ all i j x y a.1 b.1 lt | inr b ↦ all i (suc j) x y a.1 b.1 (omega arith) ]
    | inr a ↦ elim (get-remove xs r j y hj) [ inl b ↦ absurd (omega arith) | inr b ↦ all (suc i) (suc j) x y a.1 b.1 (omega arith) ]
  ]
