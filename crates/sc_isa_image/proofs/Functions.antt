-- Functions by their numbers and by their keys.
use Rattle.std.proofs.Common.{◌≡◌, ◌≢◌, ℕ, zero, suc, ◌+◌, ◌-◌, ◌/◌, ◌%◌, ◌<◌, ◌≤◌, ◌==◌, ◌&&◌, Bool, true, false, cond, List, [], ◌∷◌, ◌++◌, length, map, refl, sym, ap, ◌∙◌, subst, Option, Some, None, Result, Ok, Err, arith, true≢false}
use Rattle.std.proofs.lemmas.Bool.Decides.{nat_tests}
use Rattle.std.specs.Prelude.{IsOk, IsSome, MatchBool, OnOk, is_some, nat_lt}
use Rattle.std.specs.List.{slice_get}
use Rattle.std.specs.Map.{lookup, set_value, values_of}
use Rattle.std.specs.Option.{option_eq, option_map}
use Rattle.std.specs.Str.{bytes_eq}
use Rattle.indexmap.specs.IndexMap.{set_value_at}
use Rattle.sc_base.specs.declared.key.Key.{Key}
use Rattle.sc_isa_image.specs.declared.stub.Stub.{Stub}
use Rattle.sc_isa_image.specs.Stubs.{Functions, face, function_at, half, key_at, set_at, stub_address, stub_of_word, stub_word, with_half}
use Rattle.sc_isa_image.specs.Lookups.{key_eq, stub_value, value_or}

eq-true : (m n : ℕ) → (m == n) ≡ true → m ≡ n
eq-true m n h = grind (arith, nat_tests)

eq-false : (m n : ℕ) → (m == n) ≡ false → m ≢ n
eq-false m n h = grind (arith, nat_tests)

pub true-eq : (m n : ℕ) → m ≡ n → (m == n) ≡ true
true-eq m n h = grind (arith, nat_tests)

pub false-eq : (m n : ℕ) → m ≢ n → (m == n) ≡ false
false-eq m n h = grind (arith, nat_tests)

pub true-lt : (m n : ℕ) → m < n → nat_lt m n ≡ true
true-lt m n h = grind (arith, nat_tests)

pub lt-false : (m n : ℕ) → nat_lt m n ≡ false → n ≤ m
lt-false m n h = grind (arith, nat_tests)

-- equal keys are one key
bytes-same : (xs ys : List ℕ) → bytes_eq xs ys ≡ true → xs ≡ ys
bytes-same [] [] h = refl
bytes-same [] (y ∷ ys) h = absurd (true≢false (sym h))
bytes-same (x ∷ xs) [] h = absurd (true≢false (sym h))
bytes-same (x ∷ xs) (y ∷ ys) h = by (x == y) refl (bytes-same xs ys) h
  where
    by : (b : Bool) → (x == y) ≡ b → (bytes_eq xs ys ≡ true → xs ≡ ys) → b && bytes_eq xs ys ≡ true → x ∷ xs ≡ y ∷ ys
    by true e rest k = ap (λ n. n ∷ xs) (eq-true x y e) ∙ ap (λ zs. y ∷ zs) (rest k)
    by false e rest k = absurd (true≢false (sym k))

option-same : (a b : Option (List ℕ)) → option_eq bytes_eq a b ≡ true → a ≡ b
option-same None None h = refl
option-same None (Some y) h = absurd (true≢false (sym h))
option-same (Some x) None h = absurd (true≢false (sym h))
option-same (Some x) (Some y) h = ap Some (bytes-same x y h)

pub key-same : (j k : Key) → key_eq j k ≡ true → j ≡ k
key-same j k h = by (option_eq bytes_eq j.«module» k.«module») refl h
  where
    by : (b : Bool) → option_eq bytes_eq j.«module» k.«module» ≡ b → b && bytes_eq j.name k.name ≡ true → j ≡ k
    by true e g = let a = option-same j.«module» k.«module» e in let n = bytes-same j.name k.name g in λ i. record { «module» = a i; name = n i }
    by false e g = absurd (true≢false (sym g))

-- a function that is appended
pub get-push : {A : Type 0} (xs : List A) (y : A) (i : ℕ) → slice_get (xs ++ y ∷ []) i ≡ cond (i == length xs) (Some y) (slice_get xs i)
get-push [] y zero = refl
get-push [] y (suc i) = sym (ap (λ b. cond b (Some y) None) (false-eq (suc i) 0 (λ e. absurd (omega arith))))
get-push (x ∷ xs) y zero = sym (ap (λ b. cond b (Some y) (Some x)) (false-eq 0 (suc (length xs)) (λ e. absurd (omega arith))))
get-push (x ∷ xs) y (suc i) = get-push xs y i ∙ ap (λ b. cond b (Some y) (slice_get xs i)) (by (i == length xs) refl)
  where
    by : (b : Bool) → (i == length xs) ≡ b → (i == length xs) ≡ (suc i == suc (length xs))
    by true e = e ∙ sym (true-eq (suc i) (suc (length xs)) (ap suc (eq-true i (length xs) e)))
    by false e = e ∙ sym (false-eq (suc i) (suc (length xs)) (λ s. eq-false i (length xs) e (omega arith)))

-- the addresses of a function's stub
in-stub : (pc n : ℕ) → 0x00010000 ≤ pc → pc % 8 ≡ 0 → (pc - 0x00010000) / 8 ≡ n → pc ≡ stub_address n
in-stub pc n l a e = omega arith

in-second : (pc n : ℕ) → 0x00010000 ≤ pc → pc % 4 ≡ 0 → pc % 8 ≢ 0 → (pc - 0x00010000) / 8 ≡ n → pc ≡ stub_address n + 4
in-second pc n l a b e = omega arith

two-words : (q pc : ℕ) → 0x00010000 ≤ q → 0x00010000 ≤ pc → q % 4 ≡ 0 → q % 8 ≢ 0 → pc % 4 ≡ 0 → pc % 8 ≢ 0 → (q - 0x00010000) / 8 ≡ (pc - 0x00010000) / 8 → q ≡ pc
two-words q pc l k a b c d e = omega arith

-- the function in whose stub an address is, by the tests
data Where (pc : ℕ) : Type 0 where
  is_below : pc < 0x00010000 → stub_of_word pc ≡ None → Where pc
  is_between : 0x00010000 ≤ pc → pc % 4 ≢ 0 → stub_of_word pc ≡ None → Where pc
  in_first : 0x00010000 ≤ pc → pc % 8 ≡ 0 → (pc % 8 == 0) ≡ true → stub_of_word pc ≡ Some ((pc - 0x00010000) / 8) → Where pc
  in_second : 0x00010000 ≤ pc → pc % 4 ≡ 0 → pc % 8 ≢ 0 → (pc % 8 == 0) ≡ false → stub_of_word pc ≡ Some ((pc - 0x00010000) / 8) → Where pc

lt-true : (m n : ℕ) → nat_lt m n ≡ true → m < n
lt-true m n h = grind (arith, nat_tests)

find-where : (pc : ℕ) → Where pc
find-where pc = by (nat_lt pc 0x00010000) refl (pc % 4 == 0) refl (pc % 8 == 0) refl
  where
    by : (a : Bool) → nat_lt pc 0x00010000 ≡ a → (b : Bool) → (pc % 4 == 0) ≡ b → (c : Bool) → (pc % 8 == 0) ≡ c → Where pc
    by true e b f c g = is_below (lt-true pc 0x00010000 e) (ap (λ x. cond x None (cond (pc % 4 == 0) (Some ((pc - 0x00010000) / 8)) None)) e)
    by false e false f c g = is_between (lt-false pc 0x00010000 e) (eq-false (pc % 4) 0 f) (λ i. cond (e i) None (cond (f i) (Some ((pc - 0x00010000) / 8)) None))
    by false e true f true g = in_first (lt-false pc 0x00010000 e) (eq-true (pc % 8) 0 g) g (λ i. cond (e i) None (cond (f i) (Some ((pc - 0x00010000) / 8)) None))
    by false e true f false g = in_second (lt-false pc 0x00010000 e) (eq-true (pc % 4) 0 f) (eq-false (pc % 8) 0 g) g (λ i. cond (e i) None (cond (f i) (Some ((pc - 0x00010000) / 8)) None))

-- the word at an address after a function is appended
pub stub_word-push : (fs : Functions) (k : Key) (stub : Stub) (pc : ℕ) → stub_word (fs ++ (k, stub) ∷ []) pc ≡ cond (pc == stub_address (length fs)) (Some stub.first) (cond (pc == stub_address (length fs) + 4) (Some stub.second) (stub_word fs pc))
stub_word-push fs k stub pc = by (find-where pc)
  where
    late : (r : Option ℕ) → pc ≢ stub_address (length fs) → pc ≢ stub_address (length fs) + 4 → r ≡ cond (pc == stub_address (length fs)) (Some stub.first) (cond (pc == stub_address (length fs) + 4) (Some stub.second) r)
    late r a b = sym (λ i. cond (false-eq pc (stub_address (length fs)) a i) (Some stub.first) (cond (false-eq pc (stub_address (length fs) + 4) b i) (Some stub.second) r))

    neither : stub_of_word pc ≡ None → pc ≢ stub_address (length fs) → pc ≢ stub_address (length fs) + 4 → stub_word (fs ++ (k, stub) ∷ []) pc ≡ cond (pc == stub_address (length fs)) (Some stub.first) (cond (pc == stub_address (length fs) + 4) (Some stub.second) (stub_word fs pc))
    neither e a b =
        ap (λ r. option_map (λ (x : Key × Stub). half pc x.1) (function_at (fs ++ (k, stub) ∷ []) r)) e
        ∙ (sym (ap (λ r. option_map (λ (x : Key × Stub). half pc x.1) (function_at fs r)) e) ∙ late (stub_word fs pc) a b)

    pushed : stub_of_word pc ≡ Some ((pc - 0x00010000) / 8) → stub_word (fs ++ (k, stub) ∷ []) pc ≡ option_map (λ (x : Key × Stub). half pc x.1) (cond (((pc - 0x00010000) / 8) == (length fs)) (Some (k, stub)) (slice_get fs ((pc - 0x00010000) / 8)))
    pushed e = ap (λ r. option_map (λ (x : Key × Stub). half pc x.1) (function_at (fs ++ (k, stub) ∷ []) r)) e ∙ ap (option_map (λ (x : Key × Stub). half pc x.1)) (get-push fs (k, stub) ((pc - 0x00010000) / 8))

    old : stub_of_word pc ≡ Some ((pc - 0x00010000) / 8) → (((pc - 0x00010000) / 8) == (length fs)) ≡ false → option_map (λ (x : Key × Stub). half pc x.1) (cond (((pc - 0x00010000) / 8) == (length fs)) (Some (k, stub)) (slice_get fs ((pc - 0x00010000) / 8))) ≡ stub_word fs pc
    old e f = ap (λ b. option_map (λ (x : Key × Stub). half pc x.1) (cond b (Some (k, stub)) (slice_get fs ((pc - 0x00010000) / 8)))) f ∙ sym (ap (λ r. option_map (λ (x : Key × Stub). half pc x.1) (function_at fs r)) e)

    by : Where pc → stub_word (fs ++ (k, stub) ∷ []) pc ≡ cond (pc == stub_address (length fs)) (Some stub.first) (cond (pc == stub_address (length fs) + 4) (Some stub.second) (stub_word fs pc))
    by (is_below l e) = neither e (λ s. absurd (omega arith)) (λ s. absurd (omega arith))
    by (is_between l ne e) = neither e (λ s. ne (omega arith)) (λ s. ne (omega arith))
    by (in_first l a t e) = pushed e ∙ at_first (((pc - 0x00010000) / 8) == (length fs)) refl
      where
        at_first : (b : Bool) → (((pc - 0x00010000) / 8) == (length fs)) ≡ b → option_map (λ (x : Key × Stub). half pc x.1) (cond (((pc - 0x00010000) / 8) == (length fs)) (Some (k, stub)) (slice_get fs ((pc - 0x00010000) / 8))) ≡ cond (pc == stub_address (length fs)) (Some stub.first) (cond (pc == stub_address (length fs) + 4) (Some stub.second) (stub_word fs pc))
        at_first true f =
            (λ i. option_map (λ (x : Key × Stub). cond (t i) x.1.first x.1.second) (cond (f i) (Some (k, stub)) (slice_get fs ((pc - 0x00010000) / 8))))
            ∙ sym (ap (λ b. cond b (Some stub.first) (cond (pc == stub_address (length fs) + 4) (Some stub.second) (stub_word fs pc))) (true-eq pc (stub_address (length fs)) (in-stub pc (length fs) l a (eq-true ((pc - 0x00010000) / 8) (length fs) f))))
        at_first false f = old e f ∙ late (stub_word fs pc) (λ s. eq-false ((pc - 0x00010000) / 8) (length fs) f (omega arith)) (λ s. absurd (omega arith))
    by (in_second l a ne t e) = pushed e ∙ at_second (((pc - 0x00010000) / 8) == (length fs)) refl
      where
        at_second : (b : Bool) → (((pc - 0x00010000) / 8) == (length fs)) ≡ b → option_map (λ (x : Key × Stub). half pc x.1) (cond (((pc - 0x00010000) / 8) == (length fs)) (Some (k, stub)) (slice_get fs ((pc - 0x00010000) / 8))) ≡ cond (pc == stub_address (length fs)) (Some stub.first) (cond (pc == stub_address (length fs) + 4) (Some stub.second) (stub_word fs pc))
        at_second true f =
            (λ i. option_map (λ (x : Key × Stub). cond (t i) x.1.first x.1.second) (cond (f i) (Some (k, stub)) (slice_get fs ((pc - 0x00010000) / 8))))
            ∙ sym (λ i. cond (false-eq pc (stub_address (length fs)) (λ s. ne (omega arith)) i) (Some stub.first) (cond (true-eq pc (stub_address (length fs) + 4) (in-second pc (length fs) l a ne (eq-true ((pc - 0x00010000) / 8) (length fs) f)) i) (Some stub.second) (stub_word fs pc)))
        at_second false f = old e f ∙ late (stub_word fs pc) (λ s. ne (omega arith)) (λ s. eq-false ((pc - 0x00010000) / 8) (length fs) f (omega arith))

-- the key at an address after a function is appended
pub key_at-push : (fs : Functions) (k : Key) (stub : Stub) (pc : ℕ) → key_at (fs ++ (k, stub) ∷ []) pc ≡ cond (pc == stub_address (length fs)) (Some k) (key_at fs pc)
key_at-push fs k stub pc = by (pc % 8 == 0) refl (find-where pc)
  where
    late : (r : Option Key) → pc ≢ stub_address (length fs) → r ≡ cond (pc == stub_address (length fs)) (Some k) r
    late r a = sym (ap (λ b. cond b (Some k) r) (false-eq pc (stub_address (length fs)) a))

    none : stub_of_word pc ≡ None → pc ≢ stub_address (length fs) → key_at (fs ++ (k, stub) ∷ []) pc ≡ cond (pc == stub_address (length fs)) (Some k) (key_at fs pc)
    none e a = ap (λ r. cond (pc % 8 == 0) (option_map (λ (x : Key × Stub). x.0) (function_at (fs ++ (k, stub) ∷ []) r)) None) e
        ∙ (sym (ap (λ r. cond (pc % 8 == 0) (option_map (λ (x : Key × Stub). x.0) (function_at fs r)) None) e) ∙ late (key_at fs pc) a)

    by : (b : Bool) → (pc % 8 == 0) ≡ b → Where pc → key_at (fs ++ (k, stub) ∷ []) pc ≡ cond (pc == stub_address (length fs)) (Some k) (key_at fs pc)
    by b g (is_below l e) = none e (λ s. absurd (omega arith))
    by b g (is_between l ne e) = none e (λ s. ne (omega arith))
    by b g (in_second l a ne t e) =
        ap (λ c. cond c (option_map (λ (x : Key × Stub). x.0) (function_at (fs ++ (k, stub) ∷ []) (stub_of_word pc))) None) t
        ∙ (sym (ap (λ c. cond c (option_map (λ (x : Key × Stub). x.0) (function_at fs (stub_of_word pc))) None) t) ∙ late (key_at fs pc) (λ s. ne (omega arith)))
    by b g (in_first l a t e) =
        (λ i. cond (t i) (option_map (λ (x : Key × Stub). x.0) (function_at (fs ++ (k, stub) ∷ []) (e i))) None)
        ∙ (ap (option_map (λ (x : Key × Stub). x.0)) (get-push fs (k, stub) ((pc - 0x00010000) / 8)) ∙ there (((pc - 0x00010000) / 8) == (length fs)) refl)
      where
        there : (b : Bool) → (((pc - 0x00010000) / 8) == (length fs)) ≡ b → option_map (λ (x : Key × Stub). x.0) (cond (((pc - 0x00010000) / 8) == (length fs)) (Some (k, stub)) (slice_get fs ((pc - 0x00010000) / 8))) ≡ cond (pc == stub_address (length fs)) (Some k) (key_at fs pc)
        there true f =
            ap (λ b. option_map (λ (x : Key × Stub). x.0) (cond b (Some (k, stub)) (slice_get fs ((pc - 0x00010000) / 8)))) f
            ∙ sym (ap (λ b. cond b (Some k) (key_at fs pc)) (true-eq pc (stub_address (length fs)) (in-stub pc (length fs) l a (eq-true ((pc - 0x00010000) / 8) (length fs) f))))
        there false f =
            ap (λ b. option_map (λ (x : Key × Stub). x.0) (cond b (Some (k, stub)) (slice_get fs ((pc - 0x00010000) / 8)))) f
            ∙ (sym (λ i. cond (t i) (option_map (λ (x : Key × Stub). x.0) (function_at fs (e i))) None) ∙ late (key_at fs pc) (λ s. eq-false ((pc - 0x00010000) / 8) (length fs) f (omega arith)))

-- a stub that is no longer a value keeps what is seen by number
abbrev pub without_value : Stub → Stub
without_value s = record { value = None; first = s.first; second = s.second }

pub faces-set : (test : Key → Bool) (fs : Functions) (s : Stub) → Some s ≡ lookup test fs → map face (set_value test fs (without_value s)) ≡ map face fs
faces-set test [] s h = refl
faces-set test (e ∷ fs) s h = by (test e.0) refl (faces-set test fs s) h
  where
    by : (b : Bool) → test e.0 ≡ b → (Some s ≡ lookup test fs → map face (set_value test fs (without_value s)) ≡ map face fs) → Some s ≡ cond b (Some e.1) (lookup test fs) → map face (cond b ((e.0, without_value s) ∷ fs) (e ∷ set_value test fs (without_value s))) ≡ face e ∷ map face fs
    by true t rest g = let same : s ≡ e.1 = cc in ap (λ (x : Stub). (e.0, (x.first, x.second)) ∷ map face fs) same
    by false t rest g = ap (λ zs. face e ∷ zs) (rest g)

-- what is seen by number decides words and keys
abbrev face_word : ℕ → Key × (ℕ × ℕ) → ℕ
face_word pc f = cond (pc % 8 == 0) f.1.0 f.1.1

abbrev face_at : List (Key × (ℕ × ℕ)) → Option ℕ → Option (Key × (ℕ × ℕ))
face_at fs None = None
face_at fs (Some n) = slice_get fs n

get-map : {A B : Type 0} (f : A → B) (xs : List A) (i : ℕ) → slice_get (map f xs) i ≡ option_map f (slice_get xs i)
get-map f [] i = refl
get-map f (x ∷ xs) zero = refl
get-map f (x ∷ xs) (suc i) = get-map f xs i

option-both : {A B C : Type 0} (f : A → B) (g : B → C) (r : Option A) → option_map (λ x. g (f x)) r ≡ option_map g (option_map f r)
option-both f g None = refl
option-both f g (Some x) = refl

face_at-faces : (fs : Functions) (r : Option ℕ) → face_at (map face fs) r ≡ option_map face (function_at fs r)
face_at-faces fs None = refl
face_at-faces fs (Some n) = get-map face fs n

pub stub_word-faces : (fs gs : Functions) (pc : ℕ) → map face gs ≡ map face fs → stub_word gs pc ≡ stub_word fs pc
stub_word-faces fs gs pc h = by_face gs ∙ (ap (λ zs. option_map (face_word pc) (face_at zs (stub_of_word pc))) h ∙ sym (by_face fs))
  where
    by_face : (xs : Functions) → stub_word xs pc ≡ option_map (face_word pc) (face_at (map face xs) (stub_of_word pc))
    by_face xs = option-both face (face_word pc) (function_at xs (stub_of_word pc)) ∙ ap (option_map (face_word pc)) (sym (face_at-faces xs (stub_of_word pc)))

pub key_at-faces : (fs gs : Functions) (pc : ℕ) → map face gs ≡ map face fs → key_at gs pc ≡ key_at fs pc
key_at-faces fs gs pc h = ap (λ r. cond (pc % 8 == 0) r None) (by_face gs ∙ (ap (λ zs. option_map (λ (f : Key × (ℕ × ℕ)). f.0) (face_at zs (stub_of_word pc))) h ∙ sym (by_face fs)))
  where
    by_face : (xs : Functions) → option_map (λ (e : Key × Stub). e.0) (function_at xs (stub_of_word pc)) ≡ option_map (λ (f : Key × (ℕ × ℕ)). f.0) (face_at (map face xs) (stub_of_word pc))
    by_face xs = option-both face (λ (f : Key × (ℕ × ℕ)). f.0) (function_at xs (stub_of_word pc)) ∙ ap (option_map (λ (f : Key × (ℕ × ℕ)). f.0)) (sym (face_at-faces xs (stub_of_word pc)))

-- another word in a stub
pub set_at-is : (fs : Functions) (n : ℕ) (s : Stub) (first : Bool) (w : ℕ) → Some s ≡ slice_get (values_of fs) n → set_value_at fs n (with_half first w s) ≡ set_at fs n first w
set_at-is [] n s first w h = refl
set_at-is (e ∷ fs) zero s first w h = let same : s ≡ e.1 = cc in ap (λ (x : Stub). (e.0, with_half first w x) ∷ fs) same
set_at-is (e ∷ fs) (suc n) s first w h = ap (λ zs. e ∷ zs) (set_at-is fs n s first w h)

pub set_at-past : (fs : Functions) (n : ℕ) (first : Bool) (w : ℕ) → None ≡ slice_get (values_of fs) n → fs ≡ set_at fs n first w
set_at-past [] n first w h = refl
set_at-past (e ∷ fs) zero first w h = absurd (cc (h))
set_at-past (e ∷ fs) (suc n) first w h = ap (λ zs. e ∷ zs) (set_at-past fs n first w h)

pub length-set_at : (fs : Functions) (n : ℕ) (first : Bool) (w : ℕ) → length (set_at fs n first w) ≡ length fs
length-set_at [] n first w = refl
length-set_at (e ∷ fs) zero first w = refl
length-set_at (e ∷ fs) (suc n) first w = ap suc (length-set_at fs n first w)

with-value : (first : Bool) (w : ℕ) (s : Stub) → (with_half first w s).value ≡ s.value
with-value true w s = refl
with-value false w s = refl

pub value-set_at : (test : Key → Bool) (fs : Functions) (n : ℕ) (first : Bool) (w : ℕ) → stub_value (lookup test (set_at fs n first w)) ≡ stub_value (lookup test fs)
value-set_at test [] n first w = refl
value-set_at test (e ∷ fs) zero first w = by (test e.0)
  where
    by : (b : Bool) → stub_value (cond b (Some (with_half first w e.1)) (lookup test fs)) ≡ stub_value (cond b (Some e.1) (lookup test fs))
    by true = with-value first w e.1
    by false = refl
value-set_at test (e ∷ fs) (suc n) first w = by (test e.0) (value-set_at test fs n first w)
  where
    by : (b : Bool) → stub_value (lookup test (set_at fs n first w)) ≡ stub_value (lookup test fs) → stub_value (cond b (Some e.1) (lookup test (set_at fs n first w))) ≡ stub_value (cond b (Some e.1) (lookup test fs))
    by true rest = refl
    by false rest = rest

pub key-set_at : (fs : Functions) (n : ℕ) (first : Bool) (w i : ℕ) → option_map (λ (e : Key × Stub). e.0) (slice_get (set_at fs n first w) i) ≡ option_map (λ (e : Key × Stub). e.0) (slice_get fs i)
key-set_at [] n first w i = refl
key-set_at (e ∷ fs) zero first w zero = refl
key-set_at (e ∷ fs) zero first w (suc i) = refl
key-set_at (e ∷ fs) (suc n) first w zero = refl
key-set_at (e ∷ fs) (suc n) first w (suc i) = key-set_at fs n first w i

pub key_at-set_at : (fs : Functions) (n : ℕ) (first : Bool) (w at : ℕ) → key_at (set_at fs n first w) at ≡ key_at fs at
key_at-set_at fs n first w at = ap (λ r. cond (at % 8 == 0) r None) (by (stub_of_word at))
  where
    by : (r : Option ℕ) → option_map (λ (e : Key × Stub). e.0) (function_at (set_at fs n first w) r) ≡ option_map (λ (e : Key × Stub). e.0) (function_at fs r)
    by None = refl
    by (Some i) = key-set_at fs n first w i

-- the words of the stubs by number, one of them with another word
half-set_at : (fs : Functions) (n : ℕ) (first : Bool) (w i pc : ℕ) → i ≢ n → option_map (λ (e : Key × Stub). half pc e.1) (slice_get (set_at fs n first w) i) ≡ option_map (λ (e : Key × Stub). half pc e.1) (slice_get fs i)
half-set_at [] n first w i pc ne = refl
half-set_at (e ∷ fs) zero first w zero pc ne = absurd (ne refl)
half-set_at (e ∷ fs) zero first w (suc i) pc ne = refl
half-set_at (e ∷ fs) (suc n) first w zero pc ne = refl
half-set_at (e ∷ fs) (suc n) first w (suc i) pc ne = half-set_at fs n first w i pc (λ s. ne (ap suc s))

abbrev same_half : Bool → Bool → Bool
same_half true first = first
same_half false true = false
same_half false false = true

half-with : (b first : Bool) (w : ℕ) (s : Stub) → cond b (with_half first w s).first (with_half first w s).second ≡ cond (same_half b first) w (cond b s.first s.second)
half-with true true w s = refl
half-with true false w s = refl
half-with false true w s = refl
half-with false false w s = refl

half-at : (fs : Functions) (n : ℕ) (first : Bool) (w pc : ℕ) (e : Key × Stub) → slice_get fs n ≡ Some e → option_map (λ (x : Key × Stub). half pc x.1) (slice_get (set_at fs n first w) n) ≡ Some (cond (same_half (pc % 8 == 0) first) w (half pc e.1))
half-at [] n first w pc e h = absurd (cc (h))
half-at (x ∷ fs) zero first w pc e h = let same : x ≡ e = cc in ap Some (half-with (pc % 8 == 0) first w x.1 ∙ ap (λ (y : Key × Stub). cond (same_half (pc % 8 == 0) first) w (half pc y.1)) same)
half-at (x ∷ fs) (suc n) first w pc e h = half-at fs n first w pc e h

pub some-of : {A B : Type 0} (f : A → B) (r : Option A) → IsSome (option_map f r) → (x : A) × (r ≡ Some x)
some-of f None h = absurd (true≢false (sym h))
some-of f (Some x) h = (x, refl)

some-cond : (b : Bool) (w h : ℕ) → Some (cond b w h) ≡ cond b (Some w) (Some h)
some-cond true w h = refl
some-cond false w h = refl

abbrev SetsWord : Functions → ℕ → ℕ → ℕ → ℕ → Type 0
SetsWord fs n pc w q = stub_word (set_at fs n (pc % 8 == 0) w) q ≡ cond (q == pc) (Some w) (stub_word fs q)

no-stub : (fs : Functions) (n pc w q : ℕ) → stub_of_word q ≡ None → q ≢ pc → SetsWord fs n pc w q
no-stub fs n pc w q e ne =
    ap (λ r. option_map (λ (x : Key × Stub). half q x.1) (function_at (set_at fs n (pc % 8 == 0) w) r)) e
    ∙ (sym (ap (λ r. option_map (λ (x : Key × Stub). half q x.1) (function_at fs r)) e) ∙ sym (ap (λ b. cond b (Some w) (stub_word fs q)) (false-eq q pc ne)))

other-stub : (fs : Functions) (n pc w q m : ℕ) → stub_of_word q ≡ Some m → m ≢ n → q ≢ pc → SetsWord fs n pc w q
other-stub fs n pc w q m e other ne =
    ap (λ r. option_map (λ (x : Key × Stub). half q x.1) (function_at (set_at fs n (pc % 8 == 0) w) r)) e
    ∙ (half-set_at fs n (pc % 8 == 0) w m q other
    ∙ (sym (ap (λ r. option_map (λ (x : Key × Stub). half q x.1) (function_at fs r)) e) ∙ sym (ap (λ b. cond b (Some w) (stub_word fs q)) (false-eq q pc ne))))

same-stub : (fs : Functions) (n pc w q : ℕ) (e : Key × Stub) → slice_get fs n ≡ Some e → stub_of_word q ≡ Some n → (q == pc) ≡ same_half (q % 8 == 0) (pc % 8 == 0) → SetsWord fs n pc w q
same-stub fs n pc w q e at here same =
    ap (λ r. option_map (λ (x : Key × Stub). half q x.1) (function_at (set_at fs n (pc % 8 == 0) w) r)) here
    ∙ (half-at fs n (pc % 8 == 0) w q e at
    ∙ (some-cond (same_half (q % 8 == 0) (pc % 8 == 0)) w (half q e.1)
    ∙ (λ i. cond (sym same i) (Some w) (sym (ap (λ r. option_map (λ (x : Key × Stub). half q x.1) (function_at fs r)) here ∙ ap (option_map (λ (x : Key × Stub). half q x.1)) at) i))))

by-number : (fs : Functions) (n pc w q m : ℕ) (e : Key × Stub) → slice_get fs n ≡ Some e → stub_of_word q ≡ Some m → (m ≡ n → (q == pc) ≡ same_half (q % 8 == 0) (pc % 8 == 0)) → (m ≢ n → q ≢ pc) → SetsWord fs n pc w q
by-number fs n pc w q m e at here same other = by (m == n) refl
  where
    by : (b : Bool) → (m == n) ≡ b → SetsWord fs n pc w q
    by true f = same-stub fs n pc w q e at (here ∙ ap Some (eq-true m n f)) (same (eq-true m n f))
    by false f = other-stub fs n pc w q m here (eq-false m n f) (other (eq-false m n f))

number-is : (pc n : ℕ) → stub_of_word pc ≡ Some n → stub_of_word pc ≡ Some ((pc - 0x00010000) / 8) → (pc - 0x00010000) / 8 ≡ n
number-is pc n h g = cc

none-number : (pc n : ℕ) → stub_of_word pc ≡ Some n → stub_of_word pc ≡ None → ⊥
none-number pc n h g = cc

halves : (q pc : ℕ) (a b c : Bool) → (q % 8 == 0) ≡ a → (pc % 8 == 0) ≡ b → (q == pc) ≡ c → c ≡ same_half a b → (q == pc) ≡ same_half (q % 8 == 0) (pc % 8 == 0)
halves q pc a b c x y z h = z ∙ (h ∙ λ i. same_half (sym x i) (sym y i))

-- the word at an address in a stub, after the one at `pc` was changed
pub stub_word-set_at : (fs : Functions) (n pc w q : ℕ) → stub_of_word pc ≡ Some n → IsSome (stub_word fs pc) → stub_word (set_at fs n (pc % 8 == 0) w) q ≡ cond (q == pc) (Some w) (stub_word fs q)
stub_word-set_at fs n pc w q at some = by (some-of (λ (x : Key × Stub). half pc x.1) (slice_get fs n) (subst (λ r. IsSome (option_map (λ (x : Key × Stub). half pc x.1) (function_at fs r))) at some)) (find-where q) (find-where pc)
  where
    by : (e : Key × Stub) × (slice_get fs n ≡ Some e) → Where q → Where pc → SetsWord fs n pc w q
    by e x (is_below l none) = absurd (none-number pc n at none)
    by e x (is_between l ne none) = absurd (none-number pc n at none)
    by e (is_below l none) (in_first k a t here) = no-stub fs n pc w q none (λ s. absurd (omega arith))
    by e (is_below l none) (in_second k a b t here) = no-stub fs n pc w q none (λ s. absurd (omega arith))
    by e (is_between l ne none) (in_first k a t here) = no-stub fs n pc w q none (λ s. ne (omega arith))
    by e (is_between l ne none) (in_second k a b t here) = no-stub fs n pc w q none (λ s. ne (omega arith))
    by e (in_first l c u there) (in_first k a t here) =
        let num = number-is pc n at here in
        by-number fs n pc w q ((q - 0x00010000) / 8) e.0 e.1 there
        (λ s. halves q pc true true true u t (true-eq q pc (omega arith)) refl)
        (λ ne. λ s. ne (omega arith))
    by e (in_first l c u there) (in_second k a b t here) =
        let num = number-is pc n at here in
        by-number fs n pc w q ((q - 0x00010000) / 8) e.0 e.1 there
        (λ s. halves q pc true false false u t (false-eq q pc (λ r. b (omega arith))) refl)
        (λ ne. λ s. ne (omega arith))
    by e (in_second l c d u there) (in_first k a t here) =
        let num = number-is pc n at here in
        by-number fs n pc w q ((q - 0x00010000) / 8) e.0 e.1 there
        (λ s. halves q pc false true false u t (false-eq q pc (λ r. d (omega arith))) refl)
        (λ ne. λ s. ne (omega arith))
    by e (in_second l c d u there) (in_second k a b t here) =
        let num = number-is pc n at here in
        by-number fs n pc w q ((q - 0x00010000) / 8) e.0 e.1 there
        (λ s. halves q pc false false true u t (true-eq q pc (two-words q pc l k c d a b (omega arith))) refl)
        (λ ne. λ s. ne (omega arith))

-- the value of a key after a function is appended
pub value-push : (k q : Key) (vs : List (Key × ℕ)) (fs gs : Functions) (s : Stub) (at : ℕ) → s.value ≡ Some at → value_or (lookup (key_eq k) vs) (stub_value (lookup (key_eq k) fs)) ≡ None → lookup (key_eq q) gs ≡ cond (key_eq k q) (Some s) (lookup (key_eq q) fs) → value_or (lookup (key_eq q) vs) (stub_value (lookup (key_eq q) gs)) ≡ cond (key_eq k q) (Some at) (value_or (lookup (key_eq q) vs) (stub_value (lookup (key_eq q) fs)))
value-push k q vs fs gs s at is none found = ap (λ r. value_or (lookup (key_eq q) vs) (stub_value r)) found ∙ by (key_eq k q) refl
  where
    no-value : (r o : Option ℕ) → value_or r o ≡ None → r ≡ None
    no-value None o h = refl
    no-value (Some x) o h = absurd (cc (h))

    by : (b : Bool) → key_eq k q ≡ b → value_or (lookup (key_eq q) vs) (stub_value (cond b (Some s) (lookup (key_eq q) fs))) ≡ cond b (Some at) (value_or (lookup (key_eq q) vs) (stub_value (lookup (key_eq q) fs)))
    by false e = refl
    by true e =
        let absent = no-value (lookup (key_eq k) vs) (stub_value (lookup (key_eq k) fs)) none in
        let here : lookup (key_eq q) vs ≡ None = ap (λ (x : Key). lookup (key_eq x) vs) (sym (key-same k q e)) ∙ absent in
        ap (λ r. value_or r s.value) here ∙ is

-- the same for words by their addresses: stubs stand below the text area
pub word-push : (fs : Functions) (k : Key) (stub : Stub) (pc : ℕ) (r : Option ℕ) → length fs < 65536 → cond (nat_lt pc 0x00100000) (stub_word (fs ++ (k, stub) ∷ []) pc) r ≡ cond (pc == stub_address (length fs)) (Some stub.first) (cond (pc == stub_address (length fs) + 4) (Some stub.second) (cond (nat_lt pc 0x00100000) (stub_word fs pc) r))
word-push fs k stub pc r few = by (nat_lt pc 0x00100000) refl
  where
    by : (b : Bool) → nat_lt pc 0x00100000 ≡ b → cond b (stub_word (fs ++ (k, stub) ∷ []) pc) r ≡ cond (pc == stub_address (length fs)) (Some stub.first) (cond (pc == stub_address (length fs) + 4) (Some stub.second) (cond b (stub_word fs pc) r))
    by true e = stub_word-push fs k stub pc
    by false e =
        let high = lt-false pc 0x00100000 e in
        sym (λ i. cond (false-eq pc (stub_address (length fs)) (λ s. absurd (omega arith)) i) (Some stub.first) (cond (false-eq pc (stub_address (length fs) + 4) (λ s. absurd (omega arith)) i) (Some stub.second) r))

pub word-set_at : (fs : Functions) (n pc w q : ℕ) (r s : Option ℕ) → pc < 0x00100000 → stub_of_word pc ≡ Some n → IsSome (cond (nat_lt pc 0x00100000) (stub_word fs pc) s) → cond (nat_lt q 0x00100000) (stub_word (set_at fs n (pc % 8 == 0) w) q) r ≡ cond (q == pc) (Some w) (cond (nat_lt q 0x00100000) (stub_word fs q) r)
word-set_at fs n pc w q r s low at some = by (nat_lt q 0x00100000) refl
  where
    there : IsSome (stub_word fs pc)
    there = subst (λ b. IsSome (cond b (stub_word fs pc) s)) (true-lt pc 0x00100000 low) some

    by : (b : Bool) → nat_lt q 0x00100000 ≡ b → cond b (stub_word (set_at fs n (pc % 8 == 0) w) q) r ≡ cond (q == pc) (Some w) (cond b (stub_word fs q) r)
    by true e = stub_word-set_at fs n pc w q at there
    by false e = let high = lt-false q 0x00100000 e in sym (ap (λ b. cond b (Some w) r) (false-eq q pc (λ t. absurd (omega arith))))

pub on-ok : {T E : Type 0} (r : Result T E) (P : Type 0) → IsOk r → OnOk r P → P
on-ok (Ok x) P i h = h
on-ok (Err e) P i h = absurd (true≢false (sym i))

-- keys by the stubs of their functions
pub stub-of-address : (n : ℕ) → stub_of_word (stub_address n) ≡ Some n
stub-of-address n = by (find-where (stub_address n))
  where
    by : Where (stub_address n) → stub_of_word (stub_address n) ≡ Some n
    by (is_below l e) = absurd (omega arith)
    by (is_between l ne e) = absurd (ne (omega arith))
    by (in_first l a t e) = e ∙ ap Some (omega arith)
    by (in_second l a ne t e) = absurd (ne (omega arith))

pub stub-of-second : (n : ℕ) → stub_of_word (stub_address n + 4) ≡ Some n
stub-of-second n = by (find-where (stub_address n + 4))
  where
    by : Where (stub_address n + 4) → stub_of_word (stub_address n + 4) ≡ Some n
    by (is_below l e) = absurd (omega arith)
    by (is_between l ne e) = absurd (ne (omega arith))
    by (in_first l a t e) = absurd (omega arith)
    by (in_second l a ne t e) = e ∙ ap Some (omega arith)

pub key-at-address : (fs : Functions) (n : ℕ) (e : Key × Stub) → slice_get fs n ≡ Some e → key_at fs (stub_address n) ≡ Some e.0
key-at-address fs n e h = (λ i. cond (true-eq (stub_address n % 8) 0 (omega arith) i) (option_map (λ (x : Key × Stub). x.0) (function_at fs (stub-of-address n i))) None) ∙ ap (option_map (λ (x : Key × Stub). x.0)) h

bytes-refl : (xs : List ℕ) → bytes_eq xs xs ≡ true
bytes-refl [] = refl
bytes-refl (x ∷ xs) = ap (λ b. b && bytes_eq xs xs) (true-eq x x refl) ∙ bytes-refl xs

option-refl : (a : Option (List ℕ)) → option_eq bytes_eq a a ≡ true
option-refl None = refl
option-refl (Some x) = bytes-refl x

pub key-refl : (k : Key) → key_eq k k ≡ true
key-refl k = ap (λ b. b && bytes_eq k.name k.name) (option-refl k.«module») ∙ bytes-refl k.name

found-key : (k : Key) (fs : Functions) (s : Stub) → lookup (key_eq k) fs ≡ Some s → (n : ℕ) × (e : Key × Stub) × (slice_get fs n ≡ Some e) × (k ≡ e.0)
found-key k [] s h = absurd (cc (h))
found-key k (e ∷ fs) s h = by (key_eq k e.0) refl (found-key k fs s) h
  where
    by : (b : Bool) → key_eq k e.0 ≡ b → (lookup (key_eq k) fs ≡ Some s → (n : ℕ) × (x : Key × Stub) × (slice_get fs n ≡ Some x) × (k ≡ x.0)) → cond b (Some e.1) (lookup (key_eq k) fs) ≡ Some s → (n : ℕ) × (x : Key × Stub) × (slice_get (e ∷ fs) n ≡ Some x) × (k ≡ x.0)
    by true t rest g = (zero, e, refl, key-same k e.0 t)
    by false t rest g = let r = rest g in (suc r.0, r.1, r.2, r.3)

pub known : (k : Key) (fs : Functions) (s : Stub) → lookup (key_eq k) fs ≡ Some s → (at : ℕ) × (key_at fs at ≡ Some k)
known k fs s h = let f = found-key k fs s h in (stub_address f.0, key-at-address fs f.0 f.1 f.2 ∙ ap Some (sym f.3))

there-key : (k : Key) (fs : Functions) (n : ℕ) (e : Key × Stub) → slice_get fs n ≡ Some e → e.0 ≡ k → lookup (key_eq k) fs ≡ None → ⊥
there-key k [] n e h g none = absurd (cc (h))
there-key k (x ∷ fs) zero e h g none = by (key_eq k x.0) refl none
  where
    same : x.0 ≡ k
    same = (let s : x ≡ e = cc in ap (λ (y : Key × Stub). y.0) s) ∙ g

    by : (b : Bool) → key_eq k x.0 ≡ b → cond b (Some x.1) (lookup (key_eq k) fs) ≡ None → ⊥
    by true t m = absurd (cc (m))
    by false t m = true≢false (sym (key-refl k) ∙ (ap (key_eq k) (sym same) ∙ t))
there-key k (x ∷ fs) (suc n) e h g none = by (key_eq k x.0) (there-key k fs n e h g) none
  where
    by : (b : Bool) → (lookup (key_eq k) fs ≡ None → ⊥) → cond b (Some x.1) (lookup (key_eq k) fs) ≡ None → ⊥
    by true rest m = absurd (cc (m))
    by false rest m = rest m

pub unknown : (k : Key) (fs : Functions) → lookup (key_eq k) fs ≡ None → (at : ℕ) → key_at fs at ≢ Some k
unknown k fs none at h = by (at % 8 == 0) (stub_of_word at) h
  where
    in_function : (r : Option (Key × Stub)) → ((e : Key × Stub) → r ≡ Some e → e.0 ≡ k → ⊥) → option_map (λ (e : Key × Stub). e.0) r ≡ Some k → ⊥
    in_function None f g = absurd (cc (g))
    in_function (Some e) f g = f e refl (let s : e.0 ≡ k = cc in s)

    by : (b : Bool) (r : Option ℕ) → cond b (option_map (λ (e : Key × Stub). e.0) (function_at fs r)) None ≡ Some k → ⊥
    by false r g = absurd (cc (g))
    by true None g = absurd (cc (g))
    by true (Some n) g = in_function (slice_get fs n) (λ e i s. there-key k fs n e i s none) g

pub absent-key : (k : Key) (fs : Functions) → ((at : ℕ) → key_at fs at ≢ Some k) → lookup (key_eq k) fs ≡ None
absent-key k fs h = by (lookup (key_eq k) fs) refl
  where
    by : (r : Option Stub) → lookup (key_eq k) fs ≡ r → r ≡ None
    by None e = refl
    by (Some s) e = let f = known k fs s e in absurd (h f.0 f.1)

pub is-known : (k : Key) (fs : Functions) (b : Bool) → b ≡ is_some (lookup (key_eq k) fs) → MatchBool b ((at : ℕ) × (key_at fs at ≡ Some k)) ((at : ℕ) → key_at fs at ≢ Some k)
is-known k fs b h = rw h (by (lookup (key_eq k) fs) refl)
  where
    by : (r : Option Stub) → lookup (key_eq k) fs ≡ r → MatchBool (is_some r) ((at : ℕ) × (key_at fs at ≡ Some k)) ((at : ℕ) → key_at fs at ≢ Some k)
    by None e = unknown k fs e
    by (Some s) e = known k fs s e
