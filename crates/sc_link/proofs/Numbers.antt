-- Functions by their numbers.
use Rattle.std.proofs.Common.{◌≡◌, ◌≢◌, ℕ, zero, suc, ◌+◌, ◌-◌, ◌*◌, ◌/◌, ◌%◌, ◌<◌, ◌≤◌, ◌==◌, Bool, true, false, cond, List, [], ◌∷◌, ◌++◌, length, refl, sym, ap, ◌∙◌, Option, Some, None, arith, true≢false}
use Rattle.std.specs.Prelude.{nat_lt, option_and_then}
use Rattle.std.specs.List.{slice_get}
use Rattle.std.specs.Option.{option_or}
use Rattle.sc_base.specs.declared.key.Key.{Key}
use Rattle.sc_isa_image.specs.Stubs.{call_words, stub_address, stub_of_word}
use Rattle.sc_isa_image.specs.Lookups.{key_eq}
use Rattle.sc_link.specs.Linked.{AreDistinct, key_in, place_in, stub_from, stub_half, stub_in, stub_words}
use Rattle.sc_link.specs.Steps.{call_over, jump_for, jump_over, key_from, stub_over}
use Rattle.sc_link.proofs.Stubs.{over-first, over-other, over-second}
use Rattle.sc_link.proofs.Keys.{eq-true, eq-false, true-eq, false-eq, true-lt, false-lt, lt-true, lt-false, get-within, key-refl, key-same, same-some}

-- An address that no function's number gives, one of a number before these, and one of these.
key-nowhere : (n : ℕ) (ks : List Key) (at : ℕ) (r : Option Key) → ((m : ℕ) → at ≢ stub_address m) → key_from n ks at r ≡ r
key-nowhere n [] at r h = refl
key-nowhere n (k ∷ ks) at r h = ap (λ b. key_from (n + 1) ks at (cond b (Some k) r)) (false-eq at (stub_address n) (h n)) ∙ key-nowhere (n + 1) ks at r h

key-behind : (n : ℕ) (ks : List Key) (m at : ℕ) (r : Option Key) → m < n → at ≡ stub_address m → key_from n ks at r ≡ r
key-behind n [] m at r l h = refl
key-behind n (k ∷ ks) m at r l h = ap (λ b. key_from (n + 1) ks at (cond b (Some k) r)) (false-eq at (stub_address n) (λ e. absurd (omega arith))) ∙ key-behind (n + 1) ks m at r (omega arith) h

key-ahead : (n : ℕ) (ks : List Key) (m at : ℕ) (r : Option Key) → at ≡ stub_address (n + m) → key_from n ks at r ≡ option_or (slice_get ks m) r
key-ahead n [] m at r h = refl
key-ahead n (k ∷ ks) zero at r h = ap (λ b. key_from (n + 1) ks at (cond b (Some k) r)) (true-eq at (stub_address n) (omega arith)) ∙ key-behind (n + 1) ks n at (Some k) (omega arith) (omega arith)
key-ahead n (k ∷ ks) (suc m) at r h = ap (λ b. key_from (n + 1) ks at (cond b (Some k) r)) (false-eq at (stub_address n) (λ e. absurd (omega arith))) ∙ key-ahead (n + 1) ks m at r (omega arith)

or-none : {A : Type 0} (r : Option A) → option_or r None ≡ r
or-none None = refl
or-none (Some x) = refl

stub-below : (pc : ℕ) → pc < 0x00010000 → stub_of_word pc ≡ None
stub-below pc l = ap (λ b. cond b None (cond (pc % 4 == 0) (Some ((pc - 0x00010000) / 8)) None)) (true-lt pc 0x00010000 l)

stub-odd : (pc : ℕ) → pc % 4 ≢ 0 → stub_of_word pc ≡ None
stub-odd pc h = by (nat_lt pc 0x00010000)
  where
    by : (b : Bool) → cond b None (cond (pc % 4 == 0) (Some ((pc - 0x00010000) / 8)) None) ≡ None
    by true = refl
    by false = ap (λ b. cond b (Some ((pc - 0x00010000) / 8)) None) (false-eq (pc % 4) 0 h)

pub stub-at : (pc n : ℕ) → 0x00010000 ≤ pc → pc % 4 ≡ 0 → (pc - 0x00010000) / 8 ≡ n → stub_of_word pc ≡ Some n
stub-at pc n l h e =
    ap (λ b. cond b None (cond (pc % 4 == 0) (Some ((pc - 0x00010000) / 8)) None)) (false-lt pc 0x00010000 l)
    ∙ (ap (λ b. cond b (Some ((pc - 0x00010000) / 8)) None) (true-eq (pc % 4) 0 h) ∙ ap Some e)

key_in-at : (ks : List Key) (n at : ℕ) → at ≡ stub_address n → key_in ks at ≡ slice_get ks n
key_in-at ks n at h =
    ap (λ b. cond b (option_and_then (slice_get ks) (stub_of_word at)) None) (true-eq (at % 8) 0 (omega arith))
    ∙ ap (option_and_then (slice_get ks)) (stub-at at n (omega arith) (omega arith) (omega arith))

key_in-nowhere : (ks : List Key) (at : ℕ) → ((m : ℕ) → at ≢ stub_address m) → key_in ks at ≡ None
key_in-nowhere ks at h = by (at % 8 == 0) refl
  where
    low : at % 8 ≡ 0 → at < 0x00010000
    low e = by-lt (nat_lt at 0x00010000) refl
      where
        by-lt : (b : Bool) → nat_lt at 0x00010000 ≡ b → at < 0x00010000
        by-lt true g = lt-true at 0x00010000 g
        by-lt false g = absurd (let l = lt-false at 0x00010000 g in h ((at - 0x00010000) / 8) (omega arith))

    by : (b : Bool) → (at % 8 == 0) ≡ b → cond b (option_and_then (slice_get ks) (stub_of_word at)) None ≡ None
    by true e = ap (option_and_then (slice_get ks)) (stub-below at (low (eq-true (at % 8) 0 e)))
    by false e = refl

-- where an address stands: at a function's stub or not
pub data Spot (at : ℕ) : Type 0 where
  here : (n : ℕ) → at ≡ stub_address n → Spot at
  nowhere : ((m : ℕ) → at ≢ stub_address m) → Spot at

pub spot : (at : ℕ) → Spot at
spot at = by (at % 8 == 0) refl (nat_lt at 0x00010000) refl
  where
    by : (b : Bool) → (at % 8 == 0) ≡ b → (c : Bool) → nat_lt at 0x00010000 ≡ c → Spot at
    by false e c g = nowhere (λ m h. eq-false (at % 8) 0 e (omega arith))
    by true e true g = nowhere (λ m h. absurd (let l = lt-true at 0x00010000 g in omega arith))
    by true e false g = here ((at - 0x00010000) / 8) (let l = lt-false at 0x00010000 g in let r = eq-true (at % 8) 0 e in omega arith)

pub keys-first : (ks : List Key) (at : ℕ) → key_from 0 ks at None ≡ key_in ks at
keys-first ks at = by (spot at)
  where
    by : Spot at → key_from 0 ks at None ≡ key_in ks at
    by (here n e) = key-ahead 0 ks n at None (e ∙ ap stub_address (omega arith)) ∙ (or-none (slice_get ks n) ∙ sym (key_in-at ks n at e))
    by (nowhere h) = key-nowhere 0 ks at None h ∙ sym (key_in-nowhere ks at h)

-- a key that the list does not have
stub-absent : (n : ℕ) (ks : List Key) (q : Key) (r : Option ℕ) → ((m : ℕ) → slice_get ks m ≢ Some q) → stub_over n ks q r ≡ r
stub-absent n [] q r h = refl
stub-absent n (k ∷ ks) q r h = ap (λ b. stub_over (n + 1) ks q (cond b (Some (stub_address n)) r)) (other (key_eq k q) refl) ∙ stub-absent (n + 1) ks q r (λ m. h (suc m))
  where
    other : (b : Bool) → key_eq k q ≡ b → key_eq k q ≡ false
    other true e = absurd (h 0 (ap Some (key-same k q e)))
    other false e = e

distinct-rest : (k : Key) (ks : List Key) → AreDistinct (k ∷ ks) → AreDistinct ks
distinct-rest k ks d m n x g h = let e = d (suc m) (suc n) x g h in omega arith

distinct-first : (k : Key) (ks : List Key) → AreDistinct (k ∷ ks) → (m : ℕ) → slice_get ks m ≢ Some k
distinct-first k ks d m h = absurd (let e = d 0 (suc m) k refl h in omega arith)

pub stubs-first : (n : ℕ) (ks : List Key) (q : Key) (r : Option ℕ) → AreDistinct ks → stub_over n ks q r ≡ option_or (stub_from n ks q) r
stubs-first n [] q r d = refl
stubs-first n (k ∷ ks) q r d = by (key_eq k q) refl (stubs-first (n + 1) ks q r (distinct-rest k ks d))
  where
    by : (b : Bool) → key_eq k q ≡ b → stub_over (n + 1) ks q r ≡ option_or (stub_from (n + 1) ks q) r → stub_over (n + 1) ks q (cond b (Some (stub_address n)) r) ≡ option_or (cond b (Some (stub_address n)) (stub_from (n + 1) ks q)) r
    by true e rest = stub-absent (n + 1) ks q (Some (stub_address n)) (λ m h. distinct-first k ks d m (h ∙ ap Some (sym (key-same k q e))))
    by false e rest = rest

-- the stub of the function with a number
pub stub-number : (n : ℕ) (ks : List Key) (m : ℕ) (k : Key) → AreDistinct ks → slice_get ks m ≡ Some k → stub_from n ks k ≡ Some (stub_address (n + m))
stub-number n [] m k d h = absurd (cc)
stub-number n (x ∷ ks) zero k d h = ap (λ b. cond b (Some (stub_address n)) (stub_from (n + 1) ks k)) (ap (λ y. key_eq x y) (sym (same-some x k h)) ∙ key-refl x) ∙ ap (λ a. Some (stub_address a)) (omega arith)
stub-number n (x ∷ ks) (suc m) k d h = by (key_eq x k) refl (stub-number (n + 1) ks m k (distinct-rest x ks d) h)
  where
    by : (b : Bool) → key_eq x k ≡ b → stub_from (n + 1) ks k ≡ Some (stub_address ((n + 1) + m)) → cond b (Some (stub_address n)) (stub_from (n + 1) ks k) ≡ Some (stub_address (n + suc m))
    by true e rest = absurd (distinct-first x ks d m (h ∙ ap Some (sym (key-same x k e))))
    by false e rest = rest ∙ ap (λ a. Some (stub_address a)) (omega arith)

-- the key of a stub's address
pub found-key : (ks : List Key) (at : ℕ) (k : Key) → key_in ks at ≡ Some k → (n : ℕ) × (at ≡ stub_address n) × (slice_get ks n ≡ Some k)
found-key ks at k h = by (spot at)
  where
    by : Spot at → (n : ℕ) × (at ≡ stub_address n) × (slice_get ks n ≡ Some k)
    by (here n e) = (n, e, sym (key_in-at ks n at e) ∙ h)
    by (nowhere g) = absurd (let z : ◌≡◌ {A = Option Key} None (Some k) = sym (key_in-nowhere ks at g) ∙ h in cc)

-- the words of stubs that ask for the service
call-nowhere : (n : ℕ) (ks : List Key) (pc : ℕ) (r : Option ℕ) → ((m : ℕ) → pc ≢ stub_address m) → ((m : ℕ) → pc ≢ stub_address m + 4) → call_over n ks pc r ≡ r
call-nowhere n [] pc r g h = refl
call-nowhere n (k ∷ ks) pc r g h =
    ap (λ b. call_over (n + 1) ks pc (cond b (slice_get call_words 0) (cond (pc == stub_address n + 4) (slice_get call_words 1) r))) (false-eq pc (stub_address n) (g n))
    ∙ (ap (λ b. call_over (n + 1) ks pc (cond b (slice_get call_words 1) r)) (false-eq pc (stub_address n + 4) (h n)) ∙ call-nowhere (n + 1) ks pc r g h)

call-behind : (n : ℕ) (ks : List Key) (m pc : ℕ) (r : Option ℕ) → m < n → stub_address m ≤ pc → pc < stub_address m + 8 → call_over n ks pc r ≡ r
call-behind n [] m pc r l g h = refl
call-behind n (k ∷ ks) m pc r l g h =
    ap (λ b. call_over (n + 1) ks pc (cond b (slice_get call_words 0) (cond (pc == stub_address n + 4) (slice_get call_words 1) r))) (false-eq pc (stub_address n) (λ e. absurd (omega arith)))
    ∙ (ap (λ b. call_over (n + 1) ks pc (cond b (slice_get call_words 1) r)) (false-eq pc (stub_address n + 4) (λ e. absurd (omega arith))) ∙ call-behind (n + 1) ks m pc r (omega arith) g h)

-- the half of a function's stub that asks for the service
abbrev pub call_half : Option Key → ℕ → Option ℕ → Option ℕ
call_half None half r = r
call_half (Some k) half r = slice_get call_words half

call-first : (n : ℕ) (ks : List Key) (m pc : ℕ) (r : Option ℕ) → pc ≡ stub_address (n + m) → call_over n ks pc r ≡ call_half (slice_get ks m) 0 r
call-first n [] m pc r h = refl
call-first n (k ∷ ks) zero pc r h =
    ap (λ b. call_over (n + 1) ks pc (cond b (slice_get call_words 0) (cond (pc == stub_address n + 4) (slice_get call_words 1) r))) (true-eq pc (stub_address n) (omega arith))
    ∙ call-behind (n + 1) ks n pc (slice_get call_words 0) (omega arith) (omega arith) (omega arith)
call-first n (k ∷ ks) (suc m) pc r h =
    ap (λ b. call_over (n + 1) ks pc (cond b (slice_get call_words 0) (cond (pc == stub_address n + 4) (slice_get call_words 1) r))) (false-eq pc (stub_address n) (λ e. absurd (omega arith)))
    ∙ (ap (λ b. call_over (n + 1) ks pc (cond b (slice_get call_words 1) r)) (false-eq pc (stub_address n + 4) (λ e. absurd (omega arith))) ∙ call-first (n + 1) ks m pc r (omega arith))

call-second : (n : ℕ) (ks : List Key) (m pc : ℕ) (r : Option ℕ) → pc ≡ stub_address (n + m) + 4 → call_over n ks pc r ≡ call_half (slice_get ks m) 1 r
call-second n [] m pc r h = refl
call-second n (k ∷ ks) zero pc r h =
    ap (λ b. call_over (n + 1) ks pc (cond b (slice_get call_words 0) (cond (pc == stub_address n + 4) (slice_get call_words 1) r))) (false-eq pc (stub_address n) (λ e. absurd (omega arith)))
    ∙ (ap (λ b. call_over (n + 1) ks pc (cond b (slice_get call_words 1) r)) (true-eq pc (stub_address n + 4) (omega arith))
    ∙ call-behind (n + 1) ks n pc (slice_get call_words 1) (omega arith) (omega arith) (omega arith))
call-second n (k ∷ ks) (suc m) pc r h =
    ap (λ b. call_over (n + 1) ks pc (cond b (slice_get call_words 0) (cond (pc == stub_address n + 4) (slice_get call_words 1) r))) (false-eq pc (stub_address n) (λ e. absurd (omega arith)))
    ∙ (ap (λ b. call_over (n + 1) ks pc (cond b (slice_get call_words 1) r)) (false-eq pc (stub_address n + 4) (λ e. absurd (omega arith))) ∙ call-second (n + 1) ks m pc r (omega arith))

-- where a word stands: the first or the second word of a stub, or none
pub data Half (pc : ℕ) : Type 0 where
  first : (n : ℕ) → pc ≡ stub_address n → Half pc
  second : (n : ℕ) → pc ≡ stub_address n + 4 → Half pc
  low : pc < 0x00010000 → Half pc
  odd : pc % 4 ≢ 0 → Half pc

pub half : (pc : ℕ) → Half pc
half pc = by (nat_lt pc 0x00010000) refl (pc % 8 == 0) refl (pc % 8 == 4) refl
  where
    by : (b : Bool) → nat_lt pc 0x00010000 ≡ b → (c : Bool) → (pc % 8 == 0) ≡ c → (d : Bool) → (pc % 8 == 4) ≡ d → Half pc
    by true e c g d h = low (lt-true pc 0x00010000 e)
    by false e true g d h = first ((pc - 0x00010000) / 8) (let l = lt-false pc 0x00010000 e in let r = eq-true (pc % 8) 0 g in omega arith)
    by false e false g true h = second ((pc - 0x00010000) / 8) (let l = lt-false pc 0x00010000 e in let r = eq-true (pc % 8) 4 h in omega arith)
    by false e false g false h = odd (λ z. let a = eq-false (pc % 8) 0 g in let b = eq-false (pc % 8) 4 h in absurd (omega arith))

stub_in-none : (js : List (Key × ℕ)) (ks : List Key) (pc : ℕ) → stub_of_word pc ≡ None → stub_in js ks pc ≡ None
stub_in-none js ks pc e = ap (option_and_then (λ n. option_and_then (λ key. stub_half pc (stub_words (place_in js key))) (slice_get ks n))) e

pub stub_in-at : (js : List (Key × ℕ)) (ks : List Key) (pc n : ℕ) → stub_of_word pc ≡ Some n → stub_in js ks pc ≡ option_and_then (λ key. stub_half pc (stub_words (place_in js key))) (slice_get ks n)
stub_in-at js ks pc n e = ap (option_and_then (λ n. option_and_then (λ key. stub_half pc (stub_words (place_in js key))) (slice_get ks n))) e

half-first : (pc : ℕ) (ws : List ℕ) → pc % 8 ≡ 0 → stub_half pc ws ≡ slice_get ws 0
half-first pc ws h = ap (λ b. cond b (slice_get ws 0) (slice_get ws 1)) (true-eq (pc % 8) 0 h)

half-second : (pc : ℕ) (ws : List ℕ) → pc % 8 ≡ 4 → stub_half pc ws ≡ slice_get ws 1
half-second pc ws h = ap (λ b. cond b (slice_get ws 0) (slice_get ws 1)) (false-eq (pc % 8) 0 (λ e. absurd (omega arith)))

called : (x : Option Key) (pc half : ℕ) → stub_half pc call_words ≡ slice_get call_words half → option_and_then (λ (key : Key). stub_half pc call_words) x ≡ call_half x half None
called None pc half h = refl
called (Some k) pc half h = h

pub calls-first : (ks : List Key) (pc : ℕ) → call_over 0 ks pc None ≡ stub_in [] ks pc
calls-first ks pc = by (half pc)
  where
    by : Half pc → call_over 0 ks pc None ≡ stub_in [] ks pc
    by (first n e) =
        call-first 0 ks n pc None (e ∙ ap stub_address (omega arith))
        ∙ sym (stub_in-at [] ks pc n (stub-at pc n (omega arith) (omega arith) (omega arith)) ∙ called (slice_get ks n) pc 0 (half-first pc call_words (omega arith)))
    by (second n e) =
        call-second 0 ks n pc None (e ∙ ap (λ m. stub_address m + 4) (omega arith))
        ∙ sym (stub_in-at [] ks pc n (stub-at pc n (omega arith) (omega arith) (omega arith)) ∙ called (slice_get ks n) pc 1 (half-second pc call_words (omega arith)))
    by (low l) = call-nowhere 0 ks pc None (λ m h. absurd (omega arith)) (λ m h. absurd (omega arith)) ∙ sym (stub_in-none [] ks pc (stub-below pc l))
    by (odd g) = call-nowhere 0 ks pc None (λ m h. g (omega arith)) (λ m h. g (omega arith)) ∙ sym (stub_in-none [] ks pc (stub-odd pc g))

-- no stub of these functions is at an address behind the last
past : (ks : List Key) (n : ℕ) → length ks ≤ n → slice_get ks n ≡ None
past [] n l = refl
past (k ∷ ks) zero l = absurd (omega arith)
past (k ∷ ks) (suc n) l = past ks n (omega arith)

pub no-stub : (js : List (Key × ℕ)) (ks : List Key) (pc : ℕ) → length ks ≤ 65536 → 0x00100000 ≤ pc → stub_in js ks pc ≡ None
no-stub js ks pc few l = by (pc % 4 == 0) refl
  where
    by : (b : Bool) → (pc % 4 == 0) ≡ b → stub_in js ks pc ≡ None
    by true e = let r = eq-true (pc % 4) 0 e in stub_in-at js ks pc ((pc - 0x00010000) / 8) (stub-at pc ((pc - 0x00010000) / 8) (omega arith) r refl) ∙ ap (option_and_then (λ key. stub_half pc (stub_words (place_in js key)))) (past ks ((pc - 0x00010000) / 8) (omega arith))
    by false e = stub_in-none js ks pc (stub-odd pc (eq-false (pc % 4) 0 e))

pub no-key : (ks : List Key) (at : ℕ) → length ks ≤ 65536 → 0x000fff00 ≤ at → key_in ks at ≡ None
no-key ks at few l = by (spot at)
  where
    by : Spot at → key_in ks at ≡ None
    by (here n e) = key_in-at ks n at e ∙ past ks n (omega arith)
    by (nowhere h) = key_in-nowhere ks at h

-- a stub that asks for the service, with a jump in its place
jumped : (js : List (Key × ℕ)) (pc half : ℕ) (x : Option Key) → ((ws : List ℕ) → stub_half pc ws ≡ slice_get ws half) → ((at : ℕ) (r : Option ℕ) → jump_over pc (Some at) r ≡ stub_half pc (stub_words (Some at))) → jump_over pc (jump_for js x) (option_and_then (λ key. stub_half pc (stub_words (place_in [] key))) x) ≡ option_and_then (λ key. stub_half pc (stub_words (place_in js key))) x
jumped js pc half None h j = refl
jumped js pc half (Some k) h j = by (place_in js k)
  where
    by : (o : Option ℕ) → jump_over pc o (stub_half pc call_words) ≡ stub_half pc (stub_words o)
    by None = refl
    by (Some at) = j at (stub_half pc call_words)

over-none : (js : List (Key × ℕ)) (pc : ℕ) (x : Option Key) (r : Option ℕ) → x ≡ None → jump_over pc (jump_for js x) r ≡ r
over-none js pc x r e = ap (λ y. jump_over pc (jump_for js y) r) e

over-odd : (js : List (Key × ℕ)) (pc : ℕ) (o r : Option ℕ) → pc % 4 ≢ 0 → jump_over pc o r ≡ r
over-odd js pc o r h = over-other pc o r (λ e. h (omega arith)) (λ e. h (omega arith))

pub jumps-first : (js : List (Key × ℕ)) (ks : List Key) (pc : ℕ) → jump_over pc (jump_for js (key_in ks (pc / 8 * 8))) (stub_in [] ks pc) ≡ stub_in js ks pc
jumps-first js ks pc = by (half pc)
  where
    at-stub : (n : ℕ) → pc / 8 * 8 ≡ stub_address n → stub_of_word pc ≡ Some n → jump_over pc (jump_for js (slice_get ks n)) (option_and_then (λ key. stub_half pc (stub_words (place_in [] key))) (slice_get ks n)) ≡ option_and_then (λ key. stub_half pc (stub_words (place_in js key))) (slice_get ks n) → jump_over pc (jump_for js (key_in ks (pc / 8 * 8))) (stub_in [] ks pc) ≡ stub_in js ks pc
    at-stub n e s j = (λ m. jump_over pc (jump_for js (key_in-at ks n (pc / 8 * 8) e m)) (stub_in-at [] ks pc n s m)) ∙ (j ∙ sym (stub_in-at js ks pc n s))

    by : Half pc → jump_over pc (jump_for js (key_in ks (pc / 8 * 8))) (stub_in [] ks pc) ≡ stub_in js ks pc
    by (first n e) = at-stub n (omega arith) (stub-at pc n (omega arith) (omega arith) (omega arith)) (jumped js pc 0 (slice_get ks n) (λ ws. half-first pc ws (omega arith)) (λ at r. over-first pc at r (omega arith) ∙ sym (half-first pc (stub_words (Some at)) (omega arith))))
    by (second n e) = at-stub n (omega arith) (stub-at pc n (omega arith) (omega arith) (omega arith)) (jumped js pc 1 (slice_get ks n) (λ ws. half-second pc ws (omega arith)) (λ at r. over-second pc at r (omega arith) ∙ sym (half-second pc (stub_words (Some at)) (omega arith))))
    by (low l) = over-none js pc (key_in ks (pc / 8 * 8)) (stub_in [] ks pc) (key_in-nowhere ks (pc / 8 * 8) (λ m h. absurd (omega arith))) ∙ (stub_in-none [] ks pc (stub-below pc l) ∙ sym (stub_in-none js ks pc (stub-below pc l)))
    by (odd g) = over-odd js pc (jump_for js (key_in ks (pc / 8 * 8))) (stub_in [] ks pc) g ∙ (stub_in-none [] ks pc (stub-odd pc g) ∙ sym (stub_in-none js ks pc (stub-odd pc g)))
