-- Elements of lists that are put together.
use Rattle.std.proofs.Common.{◌≡◌, ◌⊎◌, inl, inr, ℕ, zero, suc, Bool, true, false, cond, List, [], ◌∷◌, ◌++◌, reverse, refl, sym, ap, ◌∙◌, Option, Some, None, true≢false, append_assoc}
use Rattle.std.proofs.lemmas.List.{append-nil, reverse-append}
use Rattle.std.specs.Prelude.{flat_map, filter}
use Rattle.std.specs.List.{slice_get}
use Rattle.sc_incr.specs.Stands.{Has}

module _ {A : Type 0} where
  pub has-nothing : (x : A) → Has x [] → ⊥
  has-nothing x h = absurd (let z : ◌≡◌ {A = Option A} None (Some x) = h.1 in cc)

  pub has-front : (xs ys : List A) (x : A) → Has x xs → Has x (xs ++ ys)
  has-front [] ys x h = absurd (has-nothing x h)
  has-front (y ∷ xs) ys x h = by h.0 h.1 (λ n e. has-front xs ys x (n, e))
    where
      by : (n : ℕ) → slice_get (y ∷ xs) n ≡ Some x → ((n : ℕ) → slice_get xs n ≡ Some x → Has x (xs ++ ys)) → Has x (y ∷ (xs ++ ys))
      by zero e rest = (0, e)
      by (suc n) e rest = let r = rest n e in (suc r.0, r.1)

  pub has-back : (xs ys : List A) (x : A) → Has x ys → Has x (xs ++ ys)
  has-back [] ys x h = h
  has-back (y ∷ xs) ys x h = let r = has-back xs ys x h in (suc r.0, r.1)

  pub has-split : (xs ys : List A) (x : A) → Has x (xs ++ ys) → Has x xs ⊎ Has x ys
  has-split [] ys x h = inr h
  has-split (y ∷ xs) ys x h = by h.0 h.1 (λ n e. has-split xs ys x (n, e))
    where
      later : Has x xs ⊎ Has x ys → Has x (y ∷ xs) ⊎ Has x ys
      later (inl i) = inl (suc i.0, i.1)
      later (inr i) = inr i

      by : (n : ℕ) → slice_get (y ∷ (xs ++ ys)) n ≡ Some x → ((n : ℕ) → slice_get (xs ++ ys) n ≡ Some x → Has x xs ⊎ Has x ys) → Has x (y ∷ xs) ⊎ Has x ys
      by zero e rest = inl (0, e)
      by (suc n) e rest = later (rest n e)

  pub filter-has : (p : A → Bool) (xs : List A) (x : A) → Has x xs → p x ≡ true → Has x (filter p xs)
  filter-has p [] x h e = absurd (has-nothing x h)
  filter-has p (y ∷ xs) x h e = by (p y) refl h.0 h.1 (λ n i. filter-has p xs x (n, i) e)
    where
      by : (b : Bool) → p y ≡ b → (n : ℕ) → slice_get (y ∷ xs) n ≡ Some x → ((n : ℕ) → slice_get xs n ≡ Some x → Has x (filter p xs)) → Has x (cond b (y ∷ filter p xs) (filter p xs))
      by true g zero i rest = (0, i)
      by true g (suc n) i rest = let r = rest n i in (suc r.0, r.1)
      by false g zero i rest = let s : y ≡ x = cc in absurd (true≢false (sym e ∙ (ap p (sym s) ∙ g)))
      by false g (suc n) i rest = rest n i

  pub has-filter : (p : A → Bool) (xs : List A) (x : A) → Has x (filter p xs) → Has x xs
  has-filter p [] x h = h
  has-filter p (y ∷ xs) x h = by (p y) h (has-filter p xs x)
    where
      later : Has x xs → Has x (y ∷ xs)
      later i = (suc i.0, i.1)

      first : (n : ℕ) → slice_get (y ∷ filter p xs) n ≡ Some x → (Has x (filter p xs) → Has x xs) → Has x (y ∷ xs)
      first zero i rest = (0, i)
      first (suc n) i rest = later (rest (n, i))

      by : (b : Bool) → Has x (cond b (y ∷ filter p xs) (filter p xs)) → (Has x (filter p xs) → Has x xs) → Has x (y ∷ xs)
      by true i rest = first i.0 i.1 rest
      by false i rest = later (rest i)

  pub has-reverse : (xs : List A) (x : A) → Has x (reverse xs) → Has x xs
  has-reverse [] x h = h
  has-reverse (y ∷ xs) x h = by (has-split (reverse xs) (y ∷ []) x (h.0, ap (λ zs. slice_get zs h.0) (sym (reverse-append (y ∷ []) xs)) ∙ h.1)) (has-reverse xs x)
    where
      one : (n : ℕ) → slice_get (y ∷ []) n ≡ Some x → Has x (y ∷ xs)
      one zero e = (0, e)
      one (suc n) e = absurd (has-nothing x (n, e))

      by : Has x (reverse xs) ⊎ Has x (y ∷ []) → (Has x (reverse xs) → Has x xs) → Has x (y ∷ xs)
      by (inl i) rest = let r = rest i in (suc r.0, r.1)
      by (inr i) rest = one i.0 i.1

module _ {A B : Type 0} where
  pub has-flat : (f : A → List B) (xs : List A) (y : B) → Has y (flat_map f xs) → (x : A) × (Has x xs × Has y (f x))
  has-flat f [] y h = absurd (has-nothing y h)
  has-flat f (x ∷ xs) y h = by (has-split (f x) (flat_map f xs) y h) (has-flat f xs y)
    where
      by : Has y (f x) ⊎ Has y (flat_map f xs) → (Has y (flat_map f xs) → (z : A) × (Has z xs × Has y (f z))) → (z : A) × (Has z (x ∷ xs) × Has y (f z))
      by (inl i) rest = (x, ((0, refl), i))
      by (inr i) rest = let r = rest i in (r.0, ((suc r.1.0.0, r.1.0.1), r.1.1))

  pub flat-has : (f : A → List B) (xs : List A) (x : A) (y : B) → Has x xs → Has y (f x) → Has y (flat_map f xs)
  flat-has f [] x y h i = absurd (has-nothing x h)
  flat-has f (z ∷ xs) x y h i = by h.0 h.1 (λ n e. flat-has f xs x y (n, e) i)
    where
      by : (n : ℕ) → slice_get (z ∷ xs) n ≡ Some x → ((n : ℕ) → slice_get xs n ≡ Some x → Has y (flat_map f xs)) → Has y (f z ++ flat_map f xs)
      by zero e rest = let s : z ≡ x = cc in has-front (f z) (flat_map f xs) y (i.0, ap (λ w. slice_get (f w) i.0) s ∙ i.1)
      by (suc n) e rest = has-back (f z) (flat_map f xs) y (rest n e)

  pub flat-snoc : (f : A → List B) (xs : List A) (x : A) → flat_map f (xs ++ x ∷ []) ≡ flat_map f xs ++ f x
  flat-snoc f [] x = append-nil (f x)
  flat-snoc f (y ∷ xs) x = ap (λ zs. f y ++ zs) (flat-snoc f xs x) ∙ sym (append_assoc (f y) (flat_map f xs) (f x))
