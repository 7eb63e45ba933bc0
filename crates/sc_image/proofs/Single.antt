-- Lists in which each element is there once.
use Rattle.std.proofs.Common.{◌≡◌, ℕ, zero, suc, ◌++◌, ◌&&◌, ◌||◌, Bool, true, false, not, List, [], ◌∷◌, map, refl, sym, ap, ◌∙◌, Option, Some, None, arith, true≢false}
use Rattle.std.proofs.lemmas.Bool.Decides.{nat_tests}
use Rattle.std.specs.Prelude.{nat_eq}
use Rattle.std.specs.List.{list_any, slice_get}
use Rattle.std.specs.Option.{option_eq}
use Rattle.std.specs.Str.{bytes_eq}
use Rattle.sc_base.specs.declared.key.Key.{Key}
use Rattle.sc_isa_image.specs.Lookups.{key_eq}
use Rattle.sc_link.specs.declared.placed.LiteralAt.{LiteralAt}
use Rattle.sc_link.specs.Linked.{AreDistinct, AreOnePlaced, literal_of}
use Rattle.sc_image.specs.Distinct.{are_new, distinct}

none-some : {A : Type 0} (r : Option A) (x : A) → r ≡ None → r ≡ Some x → ⊥
none-some {A = A} r x n s = absurd (let e : ◌≡◌ {A = Option A} None (Some x) = sym n ∙ s in cc)

same-some : {A : Type 0} (x y : A) → Some x ≡ Some y → x ≡ y
same-some x y h = cc

and-left : (a b : Bool) → a && b ≡ true → a ≡ true
and-left true b h = refl
and-left false b h = absurd (true≢false (sym h))

and-right : (a b : Bool) → a && b ≡ true → b ≡ true
and-right true b h = h
and-right false b h = absurd (true≢false (sym h))

or-left : (a b : Bool) → a || b ≡ false → a ≡ false
or-left true b h = absurd (true≢false h)
or-left false b h = refl

or-right : (a b : Bool) → a || b ≡ false → b ≡ false
or-right true b h = absurd (true≢false h)
or-right false b h = h

or-both : (a b : Bool) → a ≡ false → b ≡ false → a || b ≡ false
or-both true b h k = h
or-both false b h k = k

not-true : (b : Bool) → not b ≡ true → b ≡ false
not-true true h = absurd (true≢false (sym h))
not-true false h = refl

module _ {A : Type 0} (eq : A → A → Bool) where
  any-front : (x : A) (xs ys : List A) → list_any (eq x) (xs ++ ys) ≡ false → list_any (eq x) xs ≡ false
  any-front x [] ys h = refl
  any-front x (y ∷ xs) ys h = or-both (eq x y) (list_any (eq x) xs) (or-left (eq x y) (list_any (eq x) (xs ++ ys)) h) (any-front x xs ys (or-right (eq x y) (list_any (eq x) (xs ++ ys)) h))

  any-last : (x : A) (xs : List A) (y : A) → list_any (eq x) (xs ++ y ∷ []) ≡ false → eq x y ≡ false
  any-last x [] y h = or-left (eq x y) false h
  any-last x (z ∷ xs) y h = any-last x xs y (or-right (eq x z) (list_any (eq x) (xs ++ y ∷ [])) h)

  -- an element is not among those before it
  before : (done xs : List A) (n : ℕ) (x : A) → are_new eq done xs ≡ true → slice_get xs n ≡ Some x → list_any (eq x) done ≡ false
  before done [] n x h g = absurd (none-some (slice_get [] n) x refl g)
  before done (y ∷ xs) zero x h g = ap (λ z. list_any (eq z) done) (sym (same-some y x g)) ∙ not-true (list_any (eq y) done) (and-left (not (list_any (eq y) done)) (are_new eq (done ++ y ∷ []) xs) h)
  before done (y ∷ xs) (suc n) x h g = any-front x done (y ∷ []) (before (done ++ y ∷ []) xs n x (and-right (not (list_any (eq y) done)) (are_new eq (done ++ y ∷ []) xs) h) g)

  -- where each equals itself, each is there once
  once : ((x : A) → eq x x ≡ true) → (done xs : List A) (m n : ℕ) (x : A) → are_new eq done xs ≡ true → slice_get xs m ≡ Some x → slice_get xs n ≡ Some x → m ≡ n
  once self done [] m n x h g k = absurd (none-some (slice_get [] m) x refl g)
  once self done (y ∷ xs) zero zero x h g k = refl
  once self done (y ∷ xs) zero (suc n) x h g k = absurd (twice self done y xs n x h g k)
    where
      twice : ((x : A) → eq x x ≡ true) → (done : List A) (y : A) (xs : List A) (n : ℕ) (x : A) → are_new eq done (y ∷ xs) ≡ true → Some y ≡ Some x → slice_get xs n ≡ Some x → ⊥
      twice self done y xs n x h g k = absurd (true≢false (sym (self x) ∙ (ap (eq x) (sym (same-some y x g)) ∙ any-last x done y (before (done ++ y ∷ []) xs n x (and-right (not (list_any (eq y) done)) (are_new eq (done ++ y ∷ []) xs) h) k))))
  once self done (y ∷ xs) (suc m) zero x h g k = absurd (twice self done y xs m x h k g)
    where
      twice : ((x : A) → eq x x ≡ true) → (done : List A) (y : A) (xs : List A) (n : ℕ) (x : A) → are_new eq done (y ∷ xs) ≡ true → Some y ≡ Some x → slice_get xs n ≡ Some x → ⊥
      twice self done y xs n x h g k = absurd (true≢false (sym (self x) ∙ (ap (eq x) (sym (same-some y x g)) ∙ any-last x done y (before (done ++ y ∷ []) xs n x (and-right (not (list_any (eq y) done)) (are_new eq (done ++ y ∷ []) xs) h) k))))
  once self done (y ∷ xs) (suc m) (suc n) x h g k = ap suc (once self (done ++ y ∷ []) xs m n x (and-right (not (list_any (eq y) done)) (are_new eq (done ++ y ∷ []) xs) h) g k)

nat-self : (n : ℕ) → nat_eq n n ≡ true
nat-self n = grind (arith, nat_tests)

bytes-self : (xs : List ℕ) → bytes_eq xs xs ≡ true
bytes-self [] = refl
bytes-self (x ∷ xs) = ap (λ b. b && bytes_eq xs xs) (nat-self x) ∙ bytes-self xs

option-self : (a : Option (List ℕ)) → option_eq bytes_eq a a ≡ true
option-self None = refl
option-self (Some x) = bytes-self x

key-self : (k : Key) → key_eq k k ≡ true
key-self k = ap (λ b. b && bytes_eq k.name k.name) (option-self k.«module») ∙ bytes-self k.name

pub keys-distinct : (ks : List Key) → distinct key_eq ks ≡ true → AreDistinct ks
keys-distinct ks h m n k g e = once key_eq key-self [] ks m n k h g e

place-at : (xs : List LiteralAt) (n : ℕ) (x : LiteralAt) → slice_get xs n ≡ Some x → slice_get (map (λ (y : LiteralAt). y.at) xs) n ≡ Some x.at
place-at [] n x g = absurd (none-some (slice_get [] n) x refl g)
place-at (y ∷ xs) zero x g = ap (λ (z : LiteralAt). Some z.at) (same-some y x g)
place-at (y ∷ xs) (suc n) x g = place-at xs n x g

pub places-distinct : (xs : List LiteralAt) → distinct nat_eq (map (λ (y : LiteralAt). y.at) xs) ≡ true → AreOnePlaced xs
places-distinct xs h m n x y g e s = ap literal_of (same-some x y (sym g ∙ (ap (slice_get xs) (once nat_eq nat-self [] (map (λ (z : LiteralAt). z.at) xs) m n x.at h (place-at xs m x g) (place-at xs n y e ∙ ap Some (sym s))) ∙ e)))
