-- Where the stubs of functions lead.
use Rattle.std.proofs.Common.{◌≡◌, ◌≢◌, ℕ, zero, suc, ◌+◌, ◌-◌, ◌*◌, ◌/◌, ◌%◌, ◌^◌, ◌<◌, ◌≤◌, ◌==◌, ◌&&◌, Bool, true, false, cond, List, [], ◌∷◌, map, refl, sym, ap, ◌∙◌, subst, Option, Some, None, arith, true≢false}
use Rattle.std.proofs.lemmas.Bool.Decides.{nat_tests}
use Rattle.std.specs.Prelude.{IsSome, nat_lt}
use Rattle.std.specs.Cmp.{IsEquivalence}
use Rattle.std.specs.List.{IsDistinct, slice_get}
use Rattle.std.specs.Map.{keys_of, lookup, values_of}
use Rattle.std.specs.Option.{option_map}
use Rattle.std.proofs.lemmas.Map.Entries.{lookup_from_place}
use Rattle.sc_base.specs.declared.key.Key.{Key}
use Rattle.sc_isa_image.specs.declared.stub.Stub.{Stub}
use Rattle.sc_isa_image.specs.Stubs.{Functions, face, function_at, key_at, led, led_by, new_stub, set_at, stub_address, stub_of_word, stub_word, with_half}
use Rattle.sc_isa_image.specs.Lookups.{has_key, key_eq, stub_target}
use Rattle.sc_isa_image.proofs.Functions.{false-eq, key-at-address, key-refl, key-same, lt-false, some-of, stub-of-address, stub-of-second, true-eq, true-lt}

not-lt : (m n : ℕ) → n ≤ m → nat_lt m n ≡ false
not-lt m n h = grind (arith, nat_tests)

-- equality of keys is an equivalence
not-same : (j k : Key) → key_eq j k ≡ false → key_eq k j ≡ false
not-same j k h = by (key_eq k j) refl
  where
    by : (b : Bool) → key_eq k j ≡ b → b ≡ false
    by false e = refl
    by true e = absurd (true≢false (sym (key-refl j) ∙ (ap (key_eq j) (sym (key-same k j e)) ∙ h)))

key-symm : (j k : Key) → key_eq j k ≡ key_eq k j
key-symm j k = by (key_eq j k) refl
  where
    by : (b : Bool) → key_eq j k ≡ b → key_eq j k ≡ key_eq k j
    by true e = ap (key_eq j) (sym (key-same j k e)) ∙ (key-refl j ∙ (sym (key-refl j) ∙ ap (λ (x : Key). key_eq x j) (key-same j k e)))
    by false e = e ∙ sym (not-same j k e)

key-equivalence : IsEquivalence key_eq
key-equivalence = record {
  refl = key-refl;
  symm = key-symm;
  congr = λ x y z h. ap (λ (k : Key). key_eq k z) (key-same x y h);
}

-- what is seen by number decides where stubs lead
abbrev face_target : Option (ℕ × ℕ) → Option ℕ
face_target None = None
face_target (Some words) = led words.0 words.1

target-by-faces : (test : Key → Bool) (fs : Functions) → stub_target (lookup test fs) ≡ face_target (lookup test (map face fs))
target-by-faces test [] = refl
target-by-faces test (e ∷ fs) = by (test e.0) (target-by-faces test fs)
  where
    by : (b : Bool) → stub_target (lookup test fs) ≡ face_target (lookup test (map face fs)) → stub_target (cond b (Some e.1) (lookup test fs)) ≡ face_target (cond b (Some (e.1.first, e.1.second)) (lookup test (map face fs)))
    by true rest = refl
    by false rest = rest

pub target-faces : (test : Key → Bool) (fs gs : Functions) → map face gs ≡ map face fs → stub_target (lookup test gs) ≡ stub_target (lookup test fs)
target-faces test fs gs h = target-by-faces test gs ∙ (ap (λ zs. face_target (lookup test zs)) h ∙ sym (target-by-faces test fs))

-- a new function's stub leads nowhere
pub target-push : (k q : Key) (n : ℕ) (old new : Option Stub) → new ≡ cond (key_eq k q) (Some (new_stub n)) old → stub_target new ≡ cond (key_eq k q) None (stub_target old)
target-push k q n old new h = ap stub_target h ∙ by (key_eq k q)
  where
    by : (b : Bool) → stub_target (cond b (Some (new_stub n)) old) ≡ cond b None (stub_target old)
    by true = refl
    by false = refl

-- the stub of one function with another word
keys-set_at : (fs : Functions) (n : ℕ) (first : Bool) (w : ℕ) → keys_of (set_at fs n first w) ≡ keys_of fs
keys-set_at [] n first w = refl
keys-set_at (e ∷ fs) zero first w = refl
keys-set_at (e ∷ fs) (suc n) first w = ap (λ zs. e.0 ∷ zs) (keys-set_at fs n first w)

get-set_at : (fs : Functions) (n : ℕ) (first : Bool) (w : ℕ) (k : Key) (s : Stub) → slice_get fs n ≡ Some (k, s) → slice_get (set_at fs n first w) n ≡ Some (k, with_half first w s)
get-set_at [] n first w k s h = absurd (cc (h))
get-set_at (e ∷ fs) zero first w k s h = let same : e ≡ (k, s) = cc in ap (λ (x : Key × Stub). Some (x.0, with_half first w x.1)) same
get-set_at (e ∷ fs) (suc n) first w k s h = get-set_at fs n first w k s h

lookup-other : (fs : Functions) (n : ℕ) (first : Bool) (w : ℕ) (k q : Key) (s : Stub) → slice_get fs n ≡ Some (k, s) → key_eq q k ≡ false → lookup (key_eq q) (set_at fs n first w) ≡ lookup (key_eq q) fs
lookup-other [] n first w k q s h ne = refl
lookup-other (e ∷ fs) zero first w k q s h ne =
    let same : e ≡ (k, s) = cc in
    let off : key_eq q e.0 ≡ false = ap (λ (x : Key × Stub). key_eq q x.0) same ∙ ne in
    ap (λ b. cond b (Some (with_half first w e.1)) (lookup (key_eq q) fs)) off ∙ sym (ap (λ b. cond b (Some e.1) (lookup (key_eq q) fs)) off)
lookup-other (e ∷ fs) (suc n) first w k q s h ne = ap (cond (key_eq q e.0) (Some e.1)) (lookup-other fs n first w k q s h ne)

pub lookup-set_at : (fs : Functions) (n : ℕ) (first : Bool) (w : ℕ) (k q : Key) (s : Stub) → IsDistinct key_eq (keys_of fs) → slice_get fs n ≡ Some (k, s) → lookup (key_eq q) (set_at fs n first w) ≡ cond (key_eq k q) (Some (with_half first w s)) (lookup (key_eq q) fs)
lookup-set_at fs n first w k q s distinct h = by (key_eq k q) refl
  where
    by : (b : Bool) → key_eq k q ≡ b → lookup (key_eq q) (set_at fs n first w) ≡ cond b (Some (with_half first w s)) (lookup (key_eq q) fs)
    by true e =
        ap (λ (x : Key). lookup (key_eq x) (set_at fs n first w)) (sym (key-same k q e))
        ∙ lookup_from_place key-equivalence (set_at fs n first w) n k (with_half first w s) (subst (IsDistinct key_eq) (sym (keys-set_at fs n first w)) distinct) (get-set_at fs n first w k s h)
    by false e = lookup-other fs n first w k q s h (not-same k q e)

pub no-value : (fs : Functions) (n : ℕ) (e : Key × Stub) → None ≡ slice_get (values_of fs) n → slice_get fs n ≡ Some e → ⊥
no-value [] n e h g = absurd (cc (g))
no-value (x ∷ fs) zero e h g = absurd (cc (h))
no-value (x ∷ fs) (suc n) e h g = no-value fs n e h g

-- the words of the stub of a number
first-word : (fs : Functions) (n : ℕ) (k : Key) (s : Stub) → slice_get fs n ≡ Some (k, s) → stub_word fs (stub_address n) ≡ Some s.first
first-word fs n k s h =
    ap (λ r. option_map (λ (x : Key × Stub). cond (stub_address n % 8 == 0) x.1.first x.1.second) (function_at fs r)) (stub-of-address n)
    ∙ (ap (option_map (λ (x : Key × Stub). cond (stub_address n % 8 == 0) x.1.first x.1.second)) h
    ∙ ap (λ b. Some (cond b s.first s.second)) (true-eq (stub_address n % 8) 0 (omega arith)))

second-word : (fs : Functions) (n : ℕ) (k : Key) (s : Stub) → slice_get fs n ≡ Some (k, s) → stub_word fs (stub_address n + 4) ≡ Some s.second
second-word fs n k s h =
    ap (λ r. option_map (λ (x : Key × Stub). cond ((stub_address n + 4) % 8 == 0) x.1.first x.1.second) (function_at fs r)) (stub-of-second n)
    ∙ (ap (option_map (λ (x : Key × Stub). cond ((stub_address n + 4) % 8 == 0) x.1.first x.1.second)) h
    ∙ ap (λ b. Some (cond b s.first s.second)) (false-eq ((stub_address n + 4) % 8) 0 (λ e. absurd (omega arith))))

counted : (b : Bool) (m n : ℕ) → cond b (Some m) None ≡ Some n → m ≡ n
counted true m n h = cc
counted false m n h = absurd (cc (h))

number : (pc n : ℕ) → stub_of_word pc ≡ Some n → (0x00010000 ≤ pc) × ((pc - 0x00010000) / 8 ≡ n)
number pc n h = by (nat_lt pc 0x00010000) refl h
  where
    by : (b : Bool) → nat_lt pc 0x00010000 ≡ b → cond b None (cond (pc % 4 == 0) (Some ((pc - 0x00010000) / 8)) None) ≡ Some n → (0x00010000 ≤ pc) × ((pc - 0x00010000) / 8 ≡ n)
    by true e g = absurd (cc (g))
    by false e g = (lt-false pc 0x00010000 e, counted (pc % 4 == 0) ((pc - 0x00010000) / 8) n g)

-- where stubs lead, after a word of one was changed
abbrev word_below : Functions → ℕ → Option ℕ → Option ℕ
word_below fs pc other = cond (nat_lt pc 0x00100000) (stub_word fs pc) other

pub target-set_at : (fs gs : Functions) (n pc w : ℕ) (q : Key) (x y z : Option ℕ) → pc < 0x00100000 → stub_of_word pc ≡ Some n → IsSome (word_below fs pc x) → gs ≡ set_at fs n (pc % 8 == 0) w → ((k : Key) (s : Stub) → slice_get fs n ≡ Some (k, s) → (j : Key) → lookup (key_eq j) gs ≡ cond (key_eq k j) (Some (with_half (pc % 8 == 0) w s)) (lookup (key_eq j) fs)) → stub_target (lookup (key_eq q) gs) ≡ cond (nat_lt pc 0x00100000 && has_key (key_at fs (pc / 8 * 8)) q) (led_by (word_below gs (pc / 8 * 8) y) (word_below gs (pc / 8 * 8 + 4) z)) (stub_target (lookup (key_eq q) fs))
target-set_at fs gs n pc w q x y z low at some is found =
    let there : IsSome (stub_word fs pc) = subst (λ b. IsSome (cond b (stub_word fs pc) x)) (true-lt pc 0x00100000 low) some in
    let e = some-of half-of (slice_get fs n) (subst (λ r. IsSome (option_map half-of (function_at fs r))) at there) in
    shown e.0.0 e.0.1 e.1
  where
    half-of : Key × Stub → ℕ
    half-of r = cond (pc % 8 == 0) r.1.first r.1.second

    chosen : (b : Bool) (first second : ℕ) (new : Stub) → new.first ≡ first → new.second ≡ second → stub_target (cond b (Some new) (lookup (key_eq q) fs)) ≡ cond b (led first second) (stub_target (lookup (key_eq q) fs))
    chosen true first second new a b = λ i. led (a i) (b i)
    chosen false first second new a b = refl

    shown : (k : Key) (s : Stub) → slice_get fs n ≡ Some (k, s) → stub_target (lookup (key_eq q) gs) ≡ cond (nat_lt pc 0x00100000 && has_key (key_at fs (pc / 8 * 8)) q) (led_by (word_below gs (pc / 8 * 8) y) (word_below gs (pc / 8 * 8 + 4) z)) (stub_target (lookup (key_eq q) fs))
    shown k s h =
        let new = with_half (pc % 8 == 0) w s in
        let num = number pc n at in
        let start : pc / 8 * 8 ≡ stub_address n = omega arith in
        let there : slice_get gs n ≡ Some (k, new) = ap (λ (zs : Functions). slice_get zs n) is ∙ get-set_at fs n (pc % 8 == 0) w k s h in
        let one : word_below gs (pc / 8 * 8) y ≡ Some new.first = ap (λ b. cond b (stub_word gs (pc / 8 * 8)) y) (true-lt (pc / 8 * 8) 0x00100000 (omega arith)) ∙ (ap (stub_word gs) start ∙ first-word gs n k new there) in
        let two : word_below gs (pc / 8 * 8 + 4) z ≡ Some new.second = ap (λ b. cond b (stub_word gs (pc / 8 * 8 + 4)) z) (true-lt (pc / 8 * 8 + 4) 0x00100000 (omega arith)) ∙ (ap (λ a. stub_word gs (a + 4)) start ∙ second-word gs n k new there) in
        let name : key_at fs (pc / 8 * 8) ≡ Some k = ap (key_at fs) start ∙ key-at-address fs n (k, s) h in
        ap stub_target (found k s h q)
        ∙ (chosen (key_eq k q) new.first new.second new refl refl
        ∙ λ i. cond (sym (true-lt pc 0x00100000 low) i && has_key (sym name i) q) (led_by (sym one i) (sym two i)) (stub_target (lookup (key_eq q) fs)))

-- and after a word of a text was
pub target-high : (fs : Functions) (pc : ℕ) (q : Key) (led_now : Option ℕ) → 0x00100000 ≤ pc → stub_target (lookup (key_eq q) fs) ≡ cond (nat_lt pc 0x00100000 && has_key (key_at fs (pc / 8 * 8)) q) led_now (stub_target (lookup (key_eq q) fs))
target-high fs pc q led_now h = sym (ap (λ b. cond (b && has_key (key_at fs (pc / 8 * 8)) q) led_now (stub_target (lookup (key_eq q) fs))) (not-lt pc 0x00100000 h))
