-- Equal keys, and look-ups in lists.
use Rattle.std.proofs.Common.{◌≡◌, ◌≢◌, ℕ, zero, suc, ◌<◌, ◌≤◌, ◌==◌, ◌&&◌, Bool, true, false, cond, List, [], ◌∷◌, ◌++◌, length, refl, sym, ap, ◌∙◌, Option, Some, None, find, arith, true≢false}
use Rattle.std.proofs.lemmas.Bool.Decides.{nat_tests}
use Rattle.std.specs.Prelude.{nat_lt}
use Rattle.std.specs.List.{slice_get}
use Rattle.std.specs.Map.{lookup}
use Rattle.std.specs.Option.{option_eq, option_or}
use Rattle.std.specs.Str.{bytes_eq}
use Rattle.sc_base.specs.declared.key.Key.{Key}
use Rattle.sc_isa_image.specs.Lookups.{key_eq, value_or}

pub eq-true : (m n : ℕ) → (m == n) ≡ true → m ≡ n
eq-true m n h = grind (arith, nat_tests)

pub eq-false : (m n : ℕ) → (m == n) ≡ false → m ≢ n
eq-false m n h = grind (arith, nat_tests)

pub true-eq : (m n : ℕ) → m ≡ n → (m == n) ≡ true
true-eq m n h = grind (arith, nat_tests)

pub false-eq : (m n : ℕ) → m ≢ n → (m == n) ≡ false
false-eq m n h = grind (arith, nat_tests)

pub true-lt : (m n : ℕ) → m < n → nat_lt m n ≡ true
true-lt m n h = grind (arith, nat_tests)

pub false-lt : (m n : ℕ) → n ≤ m → nat_lt m n ≡ false
false-lt m n h = grind (arith, nat_tests)

pub lt-true : (m n : ℕ) → nat_lt m n ≡ true → m < n
lt-true m n h = grind (arith, nat_tests)

pub lt-false : (m n : ℕ) → nat_lt m n ≡ false → n ≤ m
lt-false m n h = grind (arith, nat_tests)

pub bytes-same : (xs ys : List ℕ) → bytes_eq xs ys ≡ true → xs ≡ ys
bytes-same [] [] h = refl
bytes-same [] (y ∷ ys) h = absurd (true≢false (sym h))
bytes-same (x ∷ xs) [] h = absurd (true≢false (sym h))
bytes-same (x ∷ xs) (y ∷ ys) h = by (x == y) refl (bytes-same xs ys) h
  where
    by : (b : Bool) → (x == y) ≡ b → (bytes_eq xs ys ≡ true → xs ≡ ys) → b && bytes_eq xs ys ≡ true → x ∷ xs ≡ y ∷ ys
    by true e rest k = ap (λ n. n ∷ xs) (eq-true x y e) ∙ ap (λ zs. y ∷ zs) (rest k)
    by false e rest k = absurd (true≢false (sym k))

pub bytes-refl : (xs : List ℕ) → bytes_eq xs xs ≡ true
bytes-refl [] = refl
bytes-refl (x ∷ xs) = ap (λ b. b && bytes_eq xs xs) (true-eq x x refl) ∙ bytes-refl xs

option-same : (a b : Option (List ℕ)) → option_eq bytes_eq a b ≡ true → a ≡ b
option-same None None h = refl
option-same None (Some y) h = absurd (true≢false (sym h))
option-same (Some x) None h = absurd (true≢false (sym h))
option-same (Some x) (Some y) h = ap Some (bytes-same x y h)

option-refl : (a : Option (List ℕ)) → option_eq bytes_eq a a ≡ true
option-refl None = refl
option-refl (Some x) = bytes-refl x

pub key-same : (j k : Key) → key_eq j k ≡ true → j ≡ k
key-same j k h = by (option_eq bytes_eq j.«module» k.«module») refl h
  where
    by : (b : Bool) → option_eq bytes_eq j.«module» k.«module» ≡ b → b && bytes_eq j.name k.name ≡ true → j ≡ k
    by true e g = let a = option-same j.«module» k.«module» e in let n = bytes-same j.name k.name g in λ i. record { «module» = a i; name = n i }
    by false e g = absurd (true≢false (sym g))

pub key-refl : (k : Key) → key_eq k k ≡ true
key-refl k = ap (λ b. b && bytes_eq k.name k.name) (option-refl k.«module») ∙ bytes-refl k.name

module _ {A : Type 0} where
  pub none-some : (r : Option A) (x : A) → r ≡ None → r ≡ Some x → ⊥
  none-some r x n s = absurd (let e : ◌≡◌ {A = Option A} None (Some x) = sym n ∙ s in cc)

  pub same-some : (x y : A) → Some x ≡ Some y → x ≡ y
  same-some x y h = cc

  pub get-last : (xs : List A) (y : A) → slice_get (xs ++ y ∷ []) (length xs) ≡ Some y
  get-last [] y = refl
  get-last (x ∷ xs) y = get-last xs y

  pub get-front : (xs ys : List A) (n : ℕ) (x : A) → slice_get xs n ≡ Some x → slice_get (xs ++ ys) n ≡ Some x
  get-front [] ys n x h = absurd (cc)
  get-front (y ∷ xs) ys zero x h = h
  get-front (y ∷ xs) ys (suc n) x h = get-front xs ys n x h

  pub get-within : (xs : List A) (i : ℕ) (x : A) → slice_get xs i ≡ Some x → i < length xs
  get-within [] i x h = absurd (cc)
  get-within (y ∷ ys) zero x h = omega arith
  get-within (y ∷ ys) (suc i) x h = let l = get-within ys i x h in omega arith

  pub find-some : (p : A → Bool) (xs : List A) (t : A) → find p xs ≡ Some t → (n : ℕ) × (slice_get xs n ≡ Some t) × (p t ≡ true)
  find-some p [] t h = absurd (cc)
  find-some p (x ∷ xs) t h = by (p x) refl (find-some p xs t) h
    where
      by : (b : Bool) → p x ≡ b → (find p xs ≡ Some t → (n : ℕ) × (slice_get xs n ≡ Some t) × (p t ≡ true)) → cond b (Some x) (find p xs) ≡ Some t → (n : ℕ) × (slice_get (x ∷ xs) n ≡ Some t) × (p t ≡ true)
      by true e rest g = let s : x ≡ t = cc in (0, g, ap p (sym s) ∙ e)
      by false e rest g = let r = rest g in (suc r.0, r.1, r.2)

  pub find-append : (p : A → Bool) (xs ys : List A) → find p (xs ++ ys) ≡ option_or (find p xs) (find p ys)
  find-append p [] ys = refl
  find-append p (x ∷ xs) ys = by (p x) (find-append p xs ys)
    where
      by : (b : Bool) → find p (xs ++ ys) ≡ option_or (find p xs) (find p ys) → cond b (Some x) (find p (xs ++ ys)) ≡ option_or (cond b (Some x) (find p xs)) (find p ys)
      by true h = refl
      by false h = h

pub lookup-append : (p : Key → Bool) (xs ys : List (Key × ℕ)) → lookup p (xs ++ ys) ≡ option_or (lookup p xs) (lookup p ys)
lookup-append p [] ys = refl
lookup-append p (x ∷ xs) ys = by (p x.0) (lookup-append p xs ys)
  where
    by : (b : Bool) → lookup p (xs ++ ys) ≡ option_or (lookup p xs) (lookup p ys) → cond b (Some x.1) (lookup p (xs ++ ys)) ≡ option_or (cond b (Some x.1) (lookup p xs)) (lookup p ys)
    by true h = refl
    by false h = h

pub value_or-none : (a : Option ℕ) → value_or a None ≡ a
value_or-none None = refl
value_or-none (Some n) = refl
