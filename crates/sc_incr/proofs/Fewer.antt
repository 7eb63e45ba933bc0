-- Lists with a part in the middle, and without it.
use Rattle.std.proofs.Common.{◌≡◌, ◌⊎◌, inl, inr, ℕ, zero, suc, ◌+◌, ◌≤◌, List, [], ◌∷◌, ◌++◌, length, refl, sym, ap, ◌∙◌, Option, Some, None, arith, append_assoc}
use Rattle.std.specs.Prelude.{flat_map}
use Rattle.std.specs.List.{slice_get}
use Rattle.std.specs.Option.{option_or}
use Rattle.sc_base.specs.declared.key.Key.{Key}
use Rattle.sc_isa_image.specs.declared.text.Text.{Text}
use Rattle.sc_link.specs.declared.placed.LiteralAt.{LiteralAt}
use Rattle.sc_link.specs.Entries.{Fix}
use Rattle.sc_link.specs.Linked.{AreApart, AreOnePlaced, place_in}
use Rattle.sc_incr.specs.Stands.{AreSingle, Has}
use Rattle.sc_incr.proofs.Keys.{none-some}
use Rattle.sc_incr.proofs.Members.{has-back, has-front, has-split}
use Rattle.sc_incr.proofs.Numbers.{Part, before, behind, get-before, get-behind, or-lookup, part}

pub flat-append : {A B : Type 0} (f : A → List B) (xs ys : List A) → flat_map f (xs ++ ys) ≡ flat_map f xs ++ flat_map f ys
flat-append f [] ys = refl
flat-append f (x ∷ xs) ys = ap (λ zs. f x ++ zs) (flat-append f xs ys) ∙ sym (append_assoc (f x) (flat_map f xs) (flat_map f ys))

module _ {A : Type 0} (xs ms ys : List A) where
  -- a place of the list without the part, in the list with it
  abbrev pub place-of : (n : ℕ) → Part (length xs) n → ℕ
  place-of n (before l) = n
  place-of n (behind d h) = length xs + (length ms + d)

  pub get-with : (n : ℕ) (x : A) (p : Part (length xs) n) → slice_get (xs ++ ys) n ≡ Some x → slice_get (xs ++ (ms ++ ys)) (place-of n p) ≡ Some x
  get-with n x (before l) h = get-before xs (ms ++ ys) n l ∙ (sym (get-before xs ys n l) ∙ h)
  get-with n x (behind d e) h = get-behind xs (ms ++ ys) (length ms + d) (length xs + (length ms + d)) refl ∙ (get-behind ms ys d (length ms + d) refl ∙ (sym (get-behind xs ys d n e) ∙ h))

  pub place-one : (m n : ℕ) (p : Part (length xs) m) (q : Part (length xs) n) → place-of m p ≡ place-of n q → m ≡ n
  place-one m n (before l) (before k) e = e
  place-one m n (before l) (behind d h) e = absurd (let z : m ≡ length xs + (length ms + d) = e in omega arith)
  place-one m n (behind d h) (before k) e = absurd (let z : length xs + (length ms + d) ≡ n = e in omega arith)
  place-one m n (behind d h) (behind c k) e = let z : length xs + (length ms + d) ≡ length xs + (length ms + c) = e in omega arith

  pub place-order : (m n : ℕ) (p : Part (length xs) m) (q : Part (length xs) n) → place-of m p ≤ place-of n q → m ≤ n
  place-order m n (before l) (before k) e = e
  place-order m n (before l) (behind d h) e = omega arith
  place-order m n (behind d h) (before k) e = absurd (let z : length xs + (length ms + d) ≤ n = e in omega arith)
  place-order m n (behind d h) (behind c k) e = let z : length xs + (length ms + d) ≤ length xs + (length ms + c) = e in omega arith

  pub has-with : (x : A) → Has x (xs ++ ys) → Has x (xs ++ (ms ++ ys))
  has-with x h = by (has-split xs ys x h)
    where
      by : Has x xs ⊎ Has x ys → Has x (xs ++ (ms ++ ys))
      by (inl i) = has-front xs (ms ++ ys) x i
      by (inr i) = has-back xs (ms ++ ys) x (has-back ms ys x i)

  pub has-middle : (x : A) → Has x ms → Has x (xs ++ (ms ++ ys))
  has-middle x h = has-back xs (ms ++ ys) x (has-front ms ys x h)

  pub get-middle : (n : ℕ) (x : A) → slice_get ms n ≡ Some x → slice_get (xs ++ (ms ++ ys)) (length xs + n) ≡ Some x
  get-middle n x h = get-behind xs (ms ++ ys) n (length xs + n) refl ∙ front ms n h
    where
      front : (zs : List A) (n : ℕ) → slice_get zs n ≡ Some x → slice_get (zs ++ ys) n ≡ Some x
      front [] n h = absurd (none-some (slice_get [] n) x refl h)
      front (z ∷ zs) zero h = h
      front (z ∷ zs) (suc n) h = front zs n h

pub apart-without : (xs ms ys : List Text) → AreApart (xs ++ (ms ++ ys)) → AreApart (xs ++ ys)
apart-without xs ms ys a m n t u pc g e p q =
    let i = part (length xs) m in
    let j = part (length xs) n in
    place-one xs ms ys m n i j (a (place-of xs ms ys m i) (place-of xs ms ys n j) t u pc (get-with xs ms ys m t i g) (get-with xs ms ys n u j e) p q)

pub single-without : (xs ms ys : List Fix) → AreSingle (xs ++ (ms ++ ys)) → AreSingle (xs ++ ys)
single-without xs ms ys a f g h i s = a f g (has-with xs ms ys f h) (has-with xs ms ys g i) s

pub one-without : (xs ms ys : List LiteralAt) → AreOnePlaced (xs ++ (ms ++ ys)) → AreOnePlaced (xs ++ ys)
one-without xs ms ys a m n x y g e s =
    let i = part (length xs) m in
    let j = part (length xs) n in
    a (place-of xs ms ys m i) (place-of xs ms ys n j) x y (get-with xs ms ys m x i g) (get-with xs ms ys n y j e) s

pub or-none : {A : Type 0} (r : Option A) → option_or r None ≡ r
or-none None = refl
or-none (Some x) = refl

-- what a list has for a key without a part that has nothing for it
pub place-around : (xs ms ys : List (Key × ℕ)) (k : Key) → place_in (xs ++ (ms ++ ys)) k ≡ option_or (place_in xs k) (option_or (place_in ms k) (place_in ys k))
place-around xs ms ys k = or-lookup xs (ms ++ ys) k ∙ ap (option_or (place_in xs k)) (or-lookup ms ys k)

pub place-without : (xs ms ys : List (Key × ℕ)) (k : Key) → place_in ms k ≡ None → place_in (xs ++ (ms ++ ys)) k ≡ place_in (xs ++ ys) k
place-without xs ms ys k h = place-around xs ms ys k ∙ (ap (λ o. option_or (place_in xs k) (option_or o (place_in ys k))) h ∙ sym (or-lookup xs ys k))

pub place-fewer : (xs ms ys : List (Key × ℕ)) (k : Key) → place_in (xs ++ (ms ++ ys)) k ≡ None → place_in (xs ++ ys) k ≡ None
place-fewer xs ms ys k h = or-lookup xs ys k ∙ both (place_in xs k) (place_in ms k) (place_in ys k) (sym (place-around xs ms ys k) ∙ h)
  where
    both : (a b c : Option ℕ) → option_or a (option_or b c) ≡ None → option_or a c ≡ None
    both None None c e = e
    both None (Some x) c e = absurd (none-some (Some x) x e refl)
    both (Some x) b c e = absurd (none-some (Some x) x e refl)

pub place-some : (xs ms ys : List (Key × ℕ)) (k : Key) (at : ℕ) → place_in (xs ++ ys) k ≡ Some at → (b : ℕ) × (place_in (xs ++ (ms ++ ys)) k ≡ Some b)
place-some xs ms ys k at h = by (place_in xs k) (place_in ms k) (place_in ys k) refl refl refl
  where
    by : (a b c : Option ℕ) → place_in xs k ≡ a → place_in ms k ≡ b → place_in ys k ≡ c → (b : ℕ) × (place_in (xs ++ (ms ++ ys)) k ≡ Some b)
    by (Some x) b c p q r = (x, place-around xs ms ys k ∙ ap (λ o. option_or o (option_or (place_in ms k) (place_in ys k))) p)
    by None (Some y) c p q r = (y, place-around xs ms ys k ∙ (λ m. option_or (p m) (option_or (q m) (place_in ys k))))
    by None None (Some z) p q r = (z, place-around xs ms ys k ∙ (λ m. option_or (p m) (option_or (q m) (r m))))
    by None None None p q r = absurd (none-some (place_in (xs ++ ys) k) at (or-lookup xs ys k ∙ (λ m. option_or (p m) (r m))) h)

-- where a list of lists has something for a key
pub place-flat : {A : Type 0} (f : A → List (Key × ℕ)) (xs : List A) (k : Key) (at : ℕ) → place_in (flat_map f xs) k ≡ Some at → (n : ℕ) × ((x : A) × ((slice_get xs n ≡ Some x) × (place_in (f x) k ≡ Some at)))
place-flat f [] k at h = absurd (none-some (place_in [] k) at refl h)
place-flat {A = A} f (x ∷ xs) k at h = by (place_in (f x) k) refl (place-flat f xs k at)
  where
    by : (o : Option ℕ) → place_in (f x) k ≡ o → (place_in (flat_map f xs) k ≡ Some at → (n : ℕ) × ((z : A) × ((slice_get xs n ≡ Some z) × (place_in (f z) k ≡ Some at)))) → (n : ℕ) × ((z : A) × ((slice_get (x ∷ xs) n ≡ Some z) × (place_in (f z) k ≡ Some at)))
    by None e rest = let r = rest (sym (or-lookup (f x) (flat_map f xs) k ∙ ap (λ o. option_or o (place_in (flat_map f xs) k)) e) ∙ h) in (suc r.0, (r.1.0, (r.1.1.0, r.1.1.1)))
    by (Some b) e rest = (0, (x, (refl, e ∙ (sym (or-lookup (f x) (flat_map f xs) k ∙ ap (λ o. option_or o (place_in (flat_map f xs) k)) e) ∙ h))))
