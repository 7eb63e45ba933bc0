-- Functions by their numbers, and more of them.
use Rattle.std.proofs.Common.{◌≡◌, ◌≢◌, ℕ, zero, suc, ◌+◌, ◌-◌, ◌*◌, ◌/◌, ◌%◌, ◌<◌, ◌≤◌, ◌==◌, Bool, true, false, cond, List, [], ◌∷◌, ◌++◌, length, refl, sym, ap, ◌∙◌, Option, Some, None, arith, true≢false}
use Rattle.std.specs.Prelude.{nat_lt, option_and_then}
use Rattle.std.specs.List.{slice_get}
use Rattle.std.specs.Option.{option_or}
use Rattle.sc_base.specs.declared.key.Key.{Key}
use Rattle.sc_isa_image.specs.Stubs.{call_words, jump_words, stub_address, stub_of_word}
use Rattle.sc_isa_image.specs.Lookups.{key_eq}
use Rattle.sc_link.specs.Linked.{AreDistinct, key_in, place_in, stub_from, stub_half, stub_in, stub_words}
use Rattle.sc_link.specs.Steps.{call_over, jump_for, jump_over, key_from, stub_over}
use Rattle.sc_incr.specs.Stands.{AreAbsent, Has}
use Rattle.sc_incr.proofs.Keys.{lookup-append, none-some, eq-true, eq-false, true-eq, false-eq, true-lt, false-lt, lt-true, lt-false, key-refl, key-same, same-some}

-- An address that no function's number gives, one of a number before these, and one of these.
key-nowhere : (n : ℕ) (ks : List Key) (at : ℕ) (r : Option Key) → ((m : ℕ) → at ≢ stub_address m) → key_from n ks at r ≡ r
key-nowhere n [] at r h = refl
key-nowhere n (k ∷ ks) at r h = ap (λ b. key_from (n + 1) ks at (cond b (Some k) r)) (false-eq at (stub_address n) (h n)) ∙ key-nowhere (n + 1) ks at r h

key-behind : (n : ℕ) (ks : List Key) (m at : ℕ) (r : Option Key) → m < n → at ≡ stub_address m → key_from n ks at r ≡ r
key-behind n [] m at r l h = refl
key-behind n (k ∷ ks) m at r l h = ap (λ b. key_from (n + 1) ks at (cond b (Some k) r)) (false-eq at (stub_address n) (λ e. absurd (omega arith))) ∙ key-behind (n + 1) ks m at r (omega arith) h

key-ahead : (n : ℕ) (ks : List Key) (m at : ℕ) (r : Option Key) → at ≡ stub_address (n + m) → key_from n ks at r ≡ option_or (slice_get ks m) r
key-ahead n [] m at r h = refl
key-ahead n (k ∷ ks) zero at r h = ap (λ b. key_from (n + 1) ks at (cond b (Some k) r)) (true-eq at (stub_address n) (omega arith)) ∙ key-behind (n + 1) ks n at (Some k) (omega arith) (omega arith)
key-ahead n (k ∷ ks) (suc m) at r h = ap (λ b. key_from (n + 1) ks at (cond b (Some k) r)) (false-eq at (stub_address n) (λ e. absurd (omega arith))) ∙ key-ahead (n + 1) ks m at r (omega arith)

or-none : {A : Type 0} (r : Option A) → option_or r None ≡ r
or-none None = refl
or-none (Some x) = refl

pub stub-below : (pc : ℕ) → pc < 0x00010000 → stub_of_word pc ≡ None
stub-below pc l = ap (λ b. cond b None (cond (pc % 4 == 0) (Some ((pc - 0x00010000) / 8)) None)) (true-lt pc 0x00010000 l)

pub stub-odd : (pc : ℕ) → pc % 4 ≢ 0 → stub_of_word pc ≡ None
stub-odd pc h = by (nat_lt pc 0x00010000)
  where
    by : (b : Bool) → cond b None (cond (pc % 4 == 0) (Some ((pc - 0x00010000) / 8)) None) ≡ None
    by true = refl
    by false = ap (λ b. cond b (Some ((pc - 0x00010000) / 8)) None) (false-eq (pc % 4) 0 h)

pub stub-at : (pc n : ℕ) → 0x00010000 ≤ pc → pc % 4 ≡ 0 → (pc - 0x00010000) / 8 ≡ n → stub_of_word pc ≡ Some n
stub-at pc n l h e =
    ap (λ b. cond b None (cond (pc % 4 == 0) (Some ((pc - 0x00010000) / 8)) None)) (false-lt pc 0x00010000 l)
    ∙ (ap (λ b. cond b (Some ((pc - 0x00010000) / 8)) None) (true-eq (pc % 4) 0 h) ∙ ap Some e)

pub key_in-at : (ks : List Key) (n at : ℕ) → at ≡ stub_address n → key_in ks at ≡ slice_get ks n
key_in-at ks n at h =
    ap (λ b. cond b (option_and_then (slice_get ks) (stub_of_word at)) None) (true-eq (at % 8) 0 (omega arith))
    ∙ ap (option_and_then (slice_get ks)) (stub-at at n (omega arith) (omega arith) (omega arith))

pub key_in-nowhere : (ks : List Key) (at : ℕ) → ((m : ℕ) → at ≢ stub_address m) → key_in ks at ≡ None
key_in-nowhere ks at h = by (at % 8 == 0) refl
  where
    low : at % 8 ≡ 0 → at < 0x00010000
    low e = by-lt (nat_lt at 0x00010000) refl
      where
        by-lt : (b : Bool) → nat_lt at 0x00010000 ≡ b → at < 0x00010000
        by-lt true g = lt-true at 0x00010000 g
        by-lt false g = absurd (let l = lt-false at 0x00010000 g in h ((at - 0x00010000) / 8) (omega arith))

    by : (b : Bool) → (at % 8 == 0) ≡ b → cond b (option_and_then (slice_get ks) (stub_of_word at)) None ≡ None
    by true e = ap (option_and_then (slice_get ks)) (stub-below at (low (eq-true (at % 8) 0 e)))
    by false e = refl

-- where an address stands: at a function's stub or not
pub data Spot (at : ℕ) : Type 0 where
  here : (n : ℕ) → at ≡ stub_address n → Spot at
  nowhere : ((m : ℕ) → at ≢ stub_address m) → Spot at

pub spot : (at : ℕ) → Spot at
spot at = by (at % 8 == 0) refl (nat_lt at 0x00010000) refl
  where
    by : (b : Bool) → (at % 8 == 0) ≡ b → (c : Bool) → nat_lt at 0x00010000 ≡ c → Spot at
    by false e c g = nowhere (λ m h. eq-false (at % 8) 0 e (omega arith))
    by true e true g = nowhere (λ m h. absurd (let l = lt-true at 0x00010000 g in omega arith))
    by true e false g = here ((at - 0x00010000) / 8) (let l = lt-false at 0x00010000 g in let r = eq-true (at % 8) 0 e in omega arith)

-- a key that the list does not have
stub-absent : (n : ℕ) (ks : List Key) (q : Key) (r : Option ℕ) → ((m : ℕ) → slice_get ks m ≢ Some q) → stub_over n ks q r ≡ r
stub-absent n [] q r h = refl
stub-absent n (k ∷ ks) q r h = ap (λ b. stub_over (n + 1) ks q (cond b (Some (stub_address n)) r)) (other (key_eq k q) refl) ∙ stub-absent (n + 1) ks q r (λ m. h (suc m))
  where
    other : (b : Bool) → key_eq k q ≡ b → key_eq k q ≡ false
    other true e = absurd (h 0 (ap Some (key-same k q e)))
    other false e = e

distinct-rest : (k : Key) (ks : List Key) → AreDistinct (k ∷ ks) → AreDistinct ks
distinct-rest k ks d m n x g h = let e = d (suc m) (suc n) x g h in omega arith

distinct-first : (k : Key) (ks : List Key) → AreDistinct (k ∷ ks) → (m : ℕ) → slice_get ks m ≢ Some k
distinct-first k ks d m h = absurd (let e = d 0 (suc m) k refl h in omega arith)

pub stubs-first : (n : ℕ) (ks : List Key) (q : Key) (r : Option ℕ) → AreDistinct ks → stub_over n ks q r ≡ option_or (stub_from n ks q) r
stubs-first n [] q r d = refl
stubs-first n (k ∷ ks) q r d = by (key_eq k q) refl (stubs-first (n + 1) ks q r (distinct-rest k ks d))
  where
    by : (b : Bool) → key_eq k q ≡ b → stub_over (n + 1) ks q r ≡ option_or (stub_from (n + 1) ks q) r → stub_over (n + 1) ks q (cond b (Some (stub_address n)) r) ≡ option_or (cond b (Some (stub_address n)) (stub_from (n + 1) ks q)) r
    by true e rest = stub-absent (n + 1) ks q (Some (stub_address n)) (λ m h. distinct-first k ks d m (h ∙ ap Some (sym (key-same k q e))))
    by false e rest = rest

-- the stub of the function with a number
pub stub-number : (n : ℕ) (ks : List Key) (m : ℕ) (k : Key) → AreDistinct ks → slice_get ks m ≡ Some k → stub_from n ks k ≡ Some (stub_address (n + m))
stub-number n [] m k d h = absurd (cc)
stub-number n (x ∷ ks) zero k d h = ap (λ b. cond b (Some (stub_address n)) (stub_from (n + 1) ks k)) (ap (λ y. key_eq x y) (sym (same-some x k h)) ∙ key-refl x) ∙ ap (λ a. Some (stub_address a)) (omega arith)
stub-number n (x ∷ ks) (suc m) k d h = by (key_eq x k) refl (stub-number (n + 1) ks m k (distinct-rest x ks d) h)
  where
    by : (b : Bool) → key_eq x k ≡ b → stub_from (n + 1) ks k ≡ Some (stub_address ((n + 1) + m)) → cond b (Some (stub_address n)) (stub_from (n + 1) ks k) ≡ Some (stub_address (n + suc m))
    by true e rest = absurd (distinct-first x ks d m (h ∙ ap Some (sym (key-same x k e))))
    by false e rest = rest ∙ ap (λ a. Some (stub_address a)) (omega arith)

-- the key of a stub's address
pub found-key : (ks : List Key) (at : ℕ) (k : Key) → key_in ks at ≡ Some k → (n : ℕ) × (at ≡ stub_address n) × (slice_get ks n ≡ Some k)
found-key ks at k h = by (spot at)
  where
    by : Spot at → (n : ℕ) × (at ≡ stub_address n) × (slice_get ks n ≡ Some k)
    by (here n e) = (n, e, sym (key_in-at ks n at e) ∙ h)
    by (nowhere g) = absurd (let z : ◌≡◌ {A = Option Key} None (Some k) = sym (key_in-nowhere ks at g) ∙ h in cc)

-- the words of stubs that ask for the service
call-nowhere : (n : ℕ) (ks : List Key) (pc : ℕ) (r : Option ℕ) → ((m : ℕ) → pc ≢ stub_address m) → ((m : ℕ) → pc ≢ stub_address m + 4) → call_over n ks pc r ≡ r
call-nowhere n [] pc r g h = refl
call-nowhere n (k ∷ ks) pc r g h =
    ap (λ b. call_over (n + 1) ks pc (cond b (slice_get call_words 0) (cond (pc == stub_address n + 4) (slice_get call_words 1) r))) (false-eq pc (stub_address n) (g n))
    ∙ (ap (λ b. call_over (n + 1) ks pc (cond b (slice_get call_words 1) r)) (false-eq pc (stub_address n + 4) (h n)) ∙ call-nowhere (n + 1) ks pc r g h)

call-behind : (n : ℕ) (ks : List Key) (m pc : ℕ) (r : Option ℕ) → m < n → stub_address m ≤ pc → pc < stub_address m + 8 → call_over n ks pc r ≡ r
call-behind n [] m pc r l g h = refl
call-behind n (k ∷ ks) m pc r l g h =
    ap (λ b. call_over (n + 1) ks pc (cond b (slice_get call_words 0) (cond (pc == stub_address n + 4) (slice_get call_words 1) r))) (false-eq pc (stub_address n) (λ e. absurd (omega arith)))
    ∙ (ap (λ b. call_over (n + 1) ks pc (cond b (slice_get call_words 1) r)) (false-eq pc (stub_address n + 4) (λ e. absurd (omega arith))) ∙ call-behind (n + 1) ks m pc r (omega arith) g h)

-- the half of a function's stub that asks for the service
abbrev pub call_half : Option Key → ℕ → Option ℕ → Option ℕ
call_half None half r = r
call_half (Some k) half r = slice_get call_words half

call-first : (n : ℕ) (ks : List Key) (m pc : ℕ) (r : Option ℕ) → pc ≡ stub_address (n + m) → call_over n ks pc r ≡ call_half (slice_get ks m) 0 r
call-first n [] m pc r h = refl
call-first n (k ∷ ks) zero pc r h =
    ap (λ b. call_over (n + 1) ks pc (cond b (slice_get call_words 0) (cond (pc == stub_address n + 4) (slice_get call_words 1) r))) (true-eq pc (stub_address n) (omega arith))
    ∙ call-behind (n + 1) ks n pc (slice_get call_words 0) (omega arith) (omega arith) (omega arith)
call-first n (k ∷ ks) (suc m) pc r h =
    ap (λ b. call_over (n + 1) ks pc (cond b (slice_get call_words 0) (cond (pc == stub_address n + 4) (slice_get call_words 1) r))) (false-eq pc (stub_address n) (λ e. absurd (omega arith)))
    ∙ (ap (λ b. call_over (n + 1) ks pc (cond b (slice_get call_words 1) r)) (false-eq pc (stub_address n + 4) (λ e. absurd (omega arith))) ∙ call-first (n + 1) ks m pc r (omega arith))

call-second : (n : ℕ) (ks : List Key) (m pc : ℕ) (r : Option ℕ) → pc ≡ stub_address (n + m) + 4 → call_over n ks pc r ≡ call_half (slice_get ks m) 1 r
call-second n [] m pc r h = refl
call-second n (k ∷ ks) zero pc r h =
    ap (λ b. call_over (n + 1) ks pc (cond b (slice_get call_words 0) (cond (pc == stub_address n + 4) (slice_get call_words 1) r))) (false-eq pc (stub_address n) (λ e. absurd (omega arith)))
    ∙ (ap (λ b. call_over (n + 1) ks pc (cond b (slice_get call_words 1) r)) (true-eq pc (stub_address n + 4) (omega arith))
    ∙ call-behind (n + 1) ks n pc (slice_get call_words 1) (omega arith) (omega arith) (omega arith))
call-second n (k ∷ ks) (suc m) pc r h =
    ap (λ b. call_over (n + 1) ks pc (cond b (slice_get call_words 0) (cond (pc == stub_address n + 4) (slice_get call_words 1) r))) (false-eq pc (stub_address n) (λ e. absurd (omega arith)))
    ∙ (ap (λ b. call_over (n + 1) ks pc (cond b (slice_get call_words 1) r)) (false-eq pc (stub_address n + 4) (λ e. absurd (omega arith))) ∙ call-second (n + 1) ks m pc r (omega arith))

-- where a word stands: the first or the second word of a stub, or none
pub data Half (pc : ℕ) : Type 0 where
  first : (n : ℕ) → pc ≡ stub_address n → Half pc
  second : (n : ℕ) → pc ≡ stub_address n + 4 → Half pc
  low : pc < 0x00010000 → Half pc
  odd : pc % 4 ≢ 0 → Half pc

pub half : (pc : ℕ) → Half pc
half pc = by (nat_lt pc 0x00010000) refl (pc % 8 == 0) refl (pc % 8 == 4) refl
  where
    by : (b : Bool) → nat_lt pc 0x00010000 ≡ b → (c : Bool) → (pc % 8 == 0) ≡ c → (d : Bool) → (pc % 8 == 4) ≡ d → Half pc
    by true e c g d h = low (lt-true pc 0x00010000 e)
    by false e true g d h = first ((pc - 0x00010000) / 8) (let l = lt-false pc 0x00010000 e in let r = eq-true (pc % 8) 0 g in omega arith)
    by false e false g true h = second ((pc - 0x00010000) / 8) (let l = lt-false pc 0x00010000 e in let r = eq-true (pc % 8) 4 h in omega arith)
    by false e false g false h = odd (λ z. let a = eq-false (pc % 8) 0 g in let b = eq-false (pc % 8) 4 h in absurd (omega arith))

pub stub_in-none : (js : List (Key × ℕ)) (ks : List Key) (pc : ℕ) → stub_of_word pc ≡ None → stub_in js ks pc ≡ None
stub_in-none js ks pc e = ap (option_and_then (λ n. option_and_then (λ key. stub_half pc (stub_words (place_in js key))) (slice_get ks n))) e

pub stub_in-at : (js : List (Key × ℕ)) (ks : List Key) (pc n : ℕ) → stub_of_word pc ≡ Some n → stub_in js ks pc ≡ option_and_then (λ key. stub_half pc (stub_words (place_in js key))) (slice_get ks n)
stub_in-at js ks pc n e = ap (option_and_then (λ n. option_and_then (λ key. stub_half pc (stub_words (place_in js key))) (slice_get ks n))) e

pub half-first : (pc : ℕ) (ws : List ℕ) → pc % 8 ≡ 0 → stub_half pc ws ≡ slice_get ws 0
half-first pc ws h = ap (λ b. cond b (slice_get ws 0) (slice_get ws 1)) (true-eq (pc % 8) 0 h)

pub half-second : (pc : ℕ) (ws : List ℕ) → pc % 8 ≡ 4 → stub_half pc ws ≡ slice_get ws 1
half-second pc ws h = ap (λ b. cond b (slice_get ws 0) (slice_get ws 1)) (false-eq (pc % 8) 0 (λ e. absurd (omega arith)))

-- no stub of these functions is at an address behind the last
past : (ks : List Key) (n : ℕ) → length ks ≤ n → slice_get ks n ≡ None
past [] n l = refl
past (k ∷ ks) zero l = absurd (omega arith)
past (k ∷ ks) (suc n) l = past ks n (omega arith)

pub no-stub : (js : List (Key × ℕ)) (ks : List Key) (pc : ℕ) → length ks ≤ 65536 → 0x00100000 ≤ pc → stub_in js ks pc ≡ None
no-stub js ks pc few l = by (pc % 4 == 0) refl
  where
    by : (b : Bool) → (pc % 4 == 0) ≡ b → stub_in js ks pc ≡ None
    by true e = let r = eq-true (pc % 4) 0 e in stub_in-at js ks pc ((pc - 0x00010000) / 8) (stub-at pc ((pc - 0x00010000) / 8) (omega arith) r refl) ∙ ap (option_and_then (λ key. stub_half pc (stub_words (place_in js key)))) (past ks ((pc - 0x00010000) / 8) (omega arith))
    by false e = stub_in-none js ks pc (stub-odd pc (eq-false (pc % 4) 0 e))

pub no-key : (ks : List Key) (at : ℕ) → length ks ≤ 65536 → 0x000fff00 ≤ at → key_in ks at ≡ None
no-key ks at few l = by (spot at)
  where
    by : Spot at → key_in ks at ≡ None
    by (here n e) = key_in-at ks n at e ∙ past ks n (omega arith)
    by (nowhere h) = key_in-nowhere ks at h

over-first : (pc at : ℕ) (r : Option ℕ) → pc % 8 ≡ 0 → jump_over pc (Some at) r ≡ slice_get (jump_words at) 0
over-first pc at r h = ap (λ b. cond b (slice_get (jump_words at) 0) (cond (pc % 8 == 4) (slice_get (jump_words at) 1) r)) (true-eq (pc % 8) 0 h)

over-second : (pc at : ℕ) (r : Option ℕ) → pc % 8 ≡ 4 → jump_over pc (Some at) r ≡ slice_get (jump_words at) 1
over-second pc at r h =
    ap (λ b. cond b (slice_get (jump_words at) 0) (cond (pc % 8 == 4) (slice_get (jump_words at) 1) r)) (false-eq (pc % 8) 0 (λ e. absurd (omega arith)))
    ∙ ap (λ b. cond b (slice_get (jump_words at) 1) r) (true-eq (pc % 8) 4 h)

over-other : (pc : ℕ) (o r : Option ℕ) → pc % 8 ≢ 0 → pc % 8 ≢ 4 → jump_over pc o r ≡ r
over-other pc None r g h = refl
over-other pc (Some at) r g h =
    ap (λ b. cond b (slice_get (jump_words at) 0) (cond (pc % 8 == 4) (slice_get (jump_words at) 1) r)) (false-eq (pc % 8) 0 g)
    ∙ ap (λ b. cond b (slice_get (jump_words at) 1) r) (false-eq (pc % 8) 4 h)

-- a number is one of the first functions, or one of those behind them
pub data Part (n m : ℕ) : Type 0 where
  before : m < n → Part n m
  behind : (d : ℕ) → m ≡ n + d → Part n m

pub part : (n m : ℕ) → Part n m
part n m = by (nat_lt m n) refl
  where
    by : (b : Bool) → nat_lt m n ≡ b → Part n m
    by true e = before (lt-true m n e)
    by false e = behind (m - n) (let l = lt-false m n e in omega arith)

pub get-before : {A : Type 0} (xs ys : List A) (m : ℕ) → m < length xs → slice_get (xs ++ ys) m ≡ slice_get xs m
get-before [] ys m l = absurd (omega arith)
get-before (x ∷ xs) ys zero l = refl
get-before (x ∷ xs) ys (suc m) l = get-before xs ys m (omega arith)

pub get-behind : {A : Type 0} (xs ys : List A) (d m : ℕ) → m ≡ length xs + d → slice_get (xs ++ ys) m ≡ slice_get ys d
get-behind [] ys d m e = ap (slice_get ys) (e ∙ omega arith)
get-behind (x ∷ xs) ys d zero e = absurd (omega arith)
get-behind (x ∷ xs) ys d (suc m) e = get-behind xs ys d m (omega arith)

past-none : {A : Type 0} (xs : List A) (m d : ℕ) → m ≡ length xs + d → slice_get xs m ≡ None
past-none [] m d e = refl
past-none (x ∷ xs) zero d e = absurd (omega arith)
past-none (x ∷ xs) (suc m) d e = past-none xs m d (omega arith)

-- the keys of stubs
pub keys-more : (ks more : List Key) (at : ℕ) → key_from (length ks) more at (key_in ks at) ≡ key_in (ks ++ more) at
keys-more ks more at = by (spot at)
  where
    number : (n : ℕ) → at ≡ stub_address n → Part (length ks) n → key_from (length ks) more at (key_in ks at) ≡ key_in (ks ++ more) at
    number n e (before l) =
        key-behind (length ks) more n at (key_in ks at) l e
        ∙ (key_in-at ks n at e ∙ (sym (get-before ks more n l) ∙ sym (key_in-at (ks ++ more) n at e)))
    number n e (behind d h) =
        key-ahead (length ks) more d at (key_in ks at) (e ∙ ap stub_address h)
        ∙ (ap (option_or (slice_get more d)) (key_in-at ks n at e ∙ past-none ks n d h)
        ∙ (or-none (slice_get more d) ∙ (sym (get-behind ks more d n h) ∙ sym (key_in-at (ks ++ more) n at e))))

    by : Spot at → key_from (length ks) more at (key_in ks at) ≡ key_in (ks ++ more) at
    by (here n e) = number n e (part (length ks) n)
    by (nowhere h) = key-nowhere (length ks) more at (key_in ks at) h ∙ (key_in-nowhere ks at h ∙ sym (key_in-nowhere (ks ++ more) at h))

-- the stubs of keys
stub-append : (n : ℕ) (ks more : List Key) (q : Key) → stub_from n (ks ++ more) q ≡ option_or (stub_from n ks q) (stub_from (n + length ks) more q)
stub-append n [] more q = ap (λ m. stub_from m more q) (omega arith)
stub-append n (k ∷ ks) more q = by (key_eq k q) (stub-append (n + 1) ks more q)
  where
    by : (b : Bool) → stub_from (n + 1) (ks ++ more) q ≡ option_or (stub_from (n + 1) ks q) (stub_from ((n + 1) + length ks) more q) → cond b (Some (stub_address n)) (stub_from (n + 1) (ks ++ more) q) ≡ option_or (cond b (Some (stub_address n)) (stub_from (n + 1) ks q)) (stub_from (n + length (k ∷ ks)) more q)
    by true h = refl
    by false h = h ∙ ap (λ m. option_or (stub_from (n + 1) ks q) (stub_from m more q)) (omega arith)

pub stub-behind : (ks more : List Key) (q : Key) → stub_from 0 (ks ++ more) q ≡ option_or (stub_from 0 ks q) (stub_from (length ks) more q)
stub-behind ks more q = stub-append 0 ks more q ∙ ap (λ m. option_or (stub_from 0 ks q) (stub_from m more q)) (omega arith)

-- what has a stub is in the list
pub stub-known : (n : ℕ) (ks : List Key) (q : Key) (at : ℕ) → stub_from n ks q ≡ Some at → Has q ks
stub-known n [] q at h = absurd (cc)
stub-known n (k ∷ ks) q at h = by (key_eq k q) refl (stub-known (n + 1) ks q at) h
  where
    by : (b : Bool) → key_eq k q ≡ b → (stub_from (n + 1) ks q ≡ Some at → Has q ks) → cond b (Some (stub_address n)) (stub_from (n + 1) ks q) ≡ Some at → Has q (k ∷ ks)
    by true e rest g = (0, ap Some (key-same k q e))
    by false e rest g = let r = rest g in (suc r.0, r.1)

-- what is in the list has a stub
pub stub-there : (n : ℕ) (ks : List Key) (q : Key) → Has q ks → stub_from n ks q ≢ None
stub-there n [] q h = λ e. none-some (slice_get [] h.0) q refl h.1
stub-there n (k ∷ ks) q h = by (key_eq k q) refl h.0 h.1 (λ m g. stub-there (n + 1) ks q (m, g))
  where
    by : (b : Bool) → key_eq k q ≡ b → (m : ℕ) → slice_get (k ∷ ks) m ≡ Some q → ((m : ℕ) → slice_get ks m ≡ Some q → stub_from (n + 1) ks q ≢ None) → cond b (Some (stub_address n)) (stub_from (n + 1) ks q) ≢ None
    by true e m g rest = λ z. absurd (cc)
    by false e zero g rest = absurd (true≢false (sym (ap (λ y. key_eq k y) (sym (same-some k q g)) ∙ key-refl k) ∙ e))
    by false e (suc m) g rest = rest m g

distinct-more : (ks more : List Key) → AreDistinct (ks ++ more) → AreDistinct more
distinct-more [] more d = d
distinct-more (k ∷ ks) more d = distinct-more ks more (distinct-rest k (ks ++ more) d)

-- what is one of the others is none of the first
distinct-other : (ks more : List Key) (q : Key) → AreDistinct (ks ++ more) → Has q ks → (m : ℕ) → slice_get more m ≢ Some q
distinct-other [] more q d h m g = none-some (slice_get [] h.0) q refl h.1
distinct-other (k ∷ ks) more q d h m g = by h.0 h.1 (λ n e. distinct-other ks more q (distinct-rest k (ks ++ more) d) (n, e) m g)
  where
    by : (n : ℕ) → slice_get (k ∷ ks) n ≡ Some q → ((n : ℕ) → slice_get ks n ≡ Some q → ⊥) → ⊥
    by zero e rest = absurd (distinct-first k (ks ++ more) d (length ks + m) (get-behind ks more m (length ks + m) refl ∙ (g ∙ sym e)))
    by (suc n) e rest = rest n e

pub stubs-more : (ks more : List Key) (q : Key) (r : Option ℕ) → AreDistinct (ks ++ more) → stub_over (length ks) more q (option_or (stub_from 0 ks q) r) ≡ option_or (stub_from 0 (ks ++ more) q) r
stubs-more ks more q r d = by (stub_from 0 ks q) refl ∙ sym (ap (λ s. option_or s r) (stub-behind ks more q))
  where
    by : (s : Option ℕ) → stub_from 0 ks q ≡ s → stub_over (length ks) more q (option_or (stub_from 0 ks q) r) ≡ option_or (option_or (stub_from 0 ks q) (stub_from (length ks) more q)) r
    by None e =
        ap (λ s. stub_over (length ks) more q (option_or s r)) e
        ∙ (stubs-first (length ks) more q r (distinct-more ks more d) ∙ ap (λ s. option_or (option_or s (stub_from (length ks) more q)) r) (sym e))
    by (Some at) e =
        stub-absent (length ks) more q (option_or (stub_from 0 ks q) r) (distinct-other ks more q d (stub-known 0 ks q at e))
        ∙ (ap (λ s. option_or s r) e ∙ ap (λ s. option_or (option_or s (stub_from (length ks) more q)) r) (sym e))

-- the words of stubs
abbrev pub at_key : List (Key × ℕ) → ℕ → Option Key → Option ℕ
at_key js pc x = option_and_then (λ key. stub_half pc (stub_words (place_in js key))) x

called : (js : List (Key × ℕ)) (x : Option Key) (pc half : ℕ) (r : Option ℕ) → ((k : Key) → x ≡ Some k → place_in js k ≡ None) → stub_half pc call_words ≡ slice_get call_words half → (x ≡ None → r ≡ None) → call_half x half r ≡ at_key js pc x
called js None pc half r h e g = g refl
called js (Some k) pc half r h e g = sym (ap (λ o. stub_half pc (stub_words o)) (h k refl) ∙ e)

pub calls-more : (js : List (Key × ℕ)) (ks more : List Key) (pc : ℕ) → AreAbsent more js → call_over (length ks) more pc (stub_in js ks pc) ≡ stub_in js (ks ++ more) pc
calls-more js ks more pc absent = by (half pc)
  where
    same-before : (n : ℕ) → stub_of_word pc ≡ Some n → n < length ks → stub_in js ks pc ≡ stub_in js (ks ++ more) pc
    same-before n s l = stub_in-at js ks pc n s ∙ (ap (at_key js pc) (sym (get-before ks more n l)) ∙ sym (stub_in-at js (ks ++ more) pc n s))

    new : (n d h : ℕ) → stub_of_word pc ≡ Some n → n ≡ length ks + d → stub_half pc call_words ≡ slice_get call_words h → call_half (slice_get more d) h (stub_in js ks pc) ≡ stub_in js (ks ++ more) pc
    new n d h s e g =
        called js (slice_get more d) pc h (stub_in js ks pc) (λ k i. absent k (d, i)) g (λ z. stub_in-at js ks pc n s ∙ ap (at_key js pc) (past-none ks n d e))
        ∙ (ap (at_key js pc) (sym (get-behind ks more d n e)) ∙ sym (stub_in-at js (ks ++ more) pc n s))

    first-by : (n : ℕ) → pc ≡ stub_address n → stub_of_word pc ≡ Some n → Part (length ks) n → call_over (length ks) more pc (stub_in js ks pc) ≡ stub_in js (ks ++ more) pc
    first-by n e s (before l) = call-behind (length ks) more n pc (stub_in js ks pc) l (omega arith) (omega arith) ∙ same-before n s l
    first-by n e s (behind d h) = call-first (length ks) more d pc (stub_in js ks pc) (e ∙ ap stub_address h) ∙ new n d 0 s h (half-first pc call_words (omega arith))

    second-by : (n : ℕ) → pc ≡ stub_address n + 4 → stub_of_word pc ≡ Some n → Part (length ks) n → call_over (length ks) more pc (stub_in js ks pc) ≡ stub_in js (ks ++ more) pc
    second-by n e s (before l) = call-behind (length ks) more n pc (stub_in js ks pc) l (omega arith) (omega arith) ∙ same-before n s l
    second-by n e s (behind d h) = call-second (length ks) more d pc (stub_in js ks pc) (e ∙ ap (λ m. stub_address m + 4) h) ∙ new n d 1 s h (half-second pc call_words (omega arith))

    by : Half pc → call_over (length ks) more pc (stub_in js ks pc) ≡ stub_in js (ks ++ more) pc
    by (first n e) = first-by n e (stub-at pc n (omega arith) (omega arith) (omega arith)) (part (length ks) n)
    by (second n e) = second-by n e (stub-at pc n (omega arith) (omega arith) (omega arith)) (part (length ks) n)
    by (low l) = call-nowhere (length ks) more pc (stub_in js ks pc) (λ m h. absurd (omega arith)) (λ m h. absurd (omega arith)) ∙ (stub_in-none js ks pc (stub-below pc l) ∙ sym (stub_in-none js (ks ++ more) pc (stub-below pc l)))
    by (odd g) = call-nowhere (length ks) more pc (stub_in js ks pc) (λ m h. g (omega arith)) (λ m h. g (omega arith)) ∙ (stub_in-none js ks pc (stub-odd pc g) ∙ sym (stub_in-none js (ks ++ more) pc (stub-odd pc g)))

-- no stub stands behind the area
pub calls-high : (ks more : List Key) (pc : ℕ) (r : Option ℕ) → length ks + length more ≤ 65536 → 0x00100000 ≤ pc → call_over (length ks) more pc r ≡ r
calls-high ks more pc r few l = by (half pc)
  where
    none : (d h : ℕ) → length more ≤ d → call_half (slice_get more d) h r ≡ r
    none d h g = ap (λ x. call_half x h r) (past more d g)

    first-by : (n : ℕ) → pc ≡ stub_address n → Part (length ks) n → call_over (length ks) more pc r ≡ r
    first-by n e (before g) = call-behind (length ks) more n pc r g (omega arith) (omega arith)
    first-by n e (behind d h) = call-first (length ks) more d pc r (e ∙ ap stub_address h) ∙ none d 0 (omega arith)

    second-by : (n : ℕ) → pc ≡ stub_address n + 4 → Part (length ks) n → call_over (length ks) more pc r ≡ r
    second-by n e (before g) = call-behind (length ks) more n pc r g (omega arith) (omega arith)
    second-by n e (behind d h) = call-second (length ks) more d pc r (e ∙ ap (λ m. stub_address m + 4) h) ∙ none d 1 (omega arith)

    by : Half pc → call_over (length ks) more pc r ≡ r
    by (first n e) = first-by n e (part (length ks) n)
    by (second n e) = second-by n e (part (length ks) n)
    by (low g) = absurd (omega arith)
    by (odd g) = call-nowhere (length ks) more pc r (λ m h. g (omega arith)) (λ m h. g (omega arith))

-- jumps of functions that had none
pub or-lookup : (js more : List (Key × ℕ)) (k : Key) → place_in (js ++ more) k ≡ option_or (place_in js k) (place_in more k)
or-lookup js more k = lookup-append (λ j. key_eq j k) js more

jumped : (js more : List (Key × ℕ)) (pc : ℕ) (x : Option Key) → ((k : Key) (at : ℕ) → place_in more k ≡ Some at → place_in js k ≡ None) → ((at : ℕ) (r : Option ℕ) → jump_over pc (Some at) r ≡ stub_half pc (stub_words (Some at))) → jump_over pc (jump_for more x) (at_key js pc x) ≡ at_key (js ++ more) pc x
jumped js more pc None h j = refl
jumped js more pc (Some k) h j = by (place_in more k) refl ∙ ap (λ o. stub_half pc (stub_words o)) (sym (or-lookup js more k))
  where
    by : (o : Option ℕ) → place_in more k ≡ o → jump_over pc (place_in more k) (stub_half pc (stub_words (place_in js k))) ≡ stub_half pc (stub_words (option_or (place_in js k) (place_in more k)))
    by None e = ap (λ o. jump_over pc o (stub_half pc (stub_words (place_in js k)))) e ∙ ap (λ o. stub_half pc (stub_words o)) (sym (ap (option_or (place_in js k)) e ∙ or-none (place_in js k)))
    by (Some at) e =
        ap (λ o. jump_over pc o (stub_half pc (stub_words (place_in js k)))) e
        ∙ (j at (stub_half pc (stub_words (place_in js k))) ∙ ap (λ o. stub_half pc (stub_words o)) (sym ((λ m. option_or (h k at e m) (e m)))))

over-none : (js : List (Key × ℕ)) (pc : ℕ) (x : Option Key) (r : Option ℕ) → x ≡ None → jump_over pc (jump_for js x) r ≡ r
over-none js pc x r e = ap (λ y. jump_over pc (jump_for js y) r) e

over-odd : (pc : ℕ) (o r : Option ℕ) → pc % 4 ≢ 0 → jump_over pc o r ≡ r
over-odd pc o r h = over-other pc o r (λ e. h (omega arith)) (λ e. h (omega arith))

pub jumps-more : (js more : List (Key × ℕ)) (ks : List Key) (pc : ℕ) → ((k : Key) (at : ℕ) → place_in more k ≡ Some at → place_in js k ≡ None) → jump_over pc (jump_for more (key_in ks (pc / 8 * 8))) (stub_in js ks pc) ≡ stub_in (js ++ more) ks pc
jumps-more js more ks pc apart = by (half pc)
  where
    at-stub : (n : ℕ) → pc / 8 * 8 ≡ stub_address n → stub_of_word pc ≡ Some n → jump_over pc (jump_for more (slice_get ks n)) (at_key js pc (slice_get ks n)) ≡ at_key (js ++ more) pc (slice_get ks n) → jump_over pc (jump_for more (key_in ks (pc / 8 * 8))) (stub_in js ks pc) ≡ stub_in (js ++ more) ks pc
    at-stub n e s j = (λ m. jump_over pc (jump_for more (key_in-at ks n (pc / 8 * 8) e m)) (stub_in-at js ks pc n s m)) ∙ (j ∙ sym (stub_in-at (js ++ more) ks pc n s))

    by : Half pc → jump_over pc (jump_for more (key_in ks (pc / 8 * 8))) (stub_in js ks pc) ≡ stub_in (js ++ more) ks pc
    by (first n e) = at-stub n (omega arith) (stub-at pc n (omega arith) (omega arith) (omega arith)) (jumped js more pc (slice_get ks n) apart (λ at r. over-first pc at r (omega arith) ∙ sym (half-first pc (stub_words (Some at)) (omega arith))))
    by (second n e) = at-stub n (omega arith) (stub-at pc n (omega arith) (omega arith) (omega arith)) (jumped js more pc (slice_get ks n) apart (λ at r. over-second pc at r (omega arith) ∙ sym (half-second pc (stub_words (Some at)) (omega arith))))
    by (low l) = over-none more pc (key_in ks (pc / 8 * 8)) (stub_in js ks pc) (key_in-nowhere ks (pc / 8 * 8) (λ m h. absurd (omega arith))) ∙ (stub_in-none js ks pc (stub-below pc l) ∙ sym (stub_in-none (js ++ more) ks pc (stub-below pc l)))
    by (odd g) = over-odd pc (jump_for more (key_in ks (pc / 8 * 8))) (stub_in js ks pc) g ∙ (stub_in-none js ks pc (stub-odd pc g) ∙ sym (stub_in-none (js ++ more) ks pc (stub-odd pc g)))

pub jumps-high : (more : List (Key × ℕ)) (ks : List Key) (pc : ℕ) (r : Option ℕ) → length ks ≤ 65536 → 0x00100000 ≤ pc → jump_over pc (jump_for more (key_in ks (pc / 8 * 8))) r ≡ r
jumps-high more ks pc r few l = over-none more pc (key_in ks (pc / 8 * 8)) r (no-key ks (pc / 8 * 8) few (omega arith))
