-- One more turn of what is bounded by a number.
use Rattle.std.proofs.Common.{◌≡◌, ℕ, suc, ◌+◌, ◌-◌, ◌<◌, ◌≤◌, Bool, true, false, not, [], refl, sym, subst, ap, ◌∙◌, arith}
use Rattle.std.proofs.lemmas.Bool.Decides.{nat_tests}
use Rattle.std.specs.Prelude.{nat_le, ◌==◌, ◌&&◌, ◌||◌, if◌then◌else◌}
use Rattle.sc_meaning.specs.Values.{Value, null}
use Rattle.sc_meaning.specs.World.{World}
use Rattle.sc_meaning.specs.Outcomes.{Done, and_then, unless, access_breach, moved}
use Rattle.sc_meaning.specs.Violations.{store_rule}
use Rattle.sc_meaning.specs.Expressions.{either}
use Rattle.sc_meaning.specs.Classes.{block_size, class_from}
use Rattle.sc_meaning.specs.Library.{byte_read, put_before, text_upto, writable, gives}
use Rattle.sc_meaning.specs.Functions.{bytes_compared, first_found, last_found, order_of}

text_suc : (n : ℕ) (p : Value) (i : ℕ) (w : World) → text_upto (suc n) p i w ≡ and_then (byte_read p i w) (λ b w. either (b == 0) (Done []) (λ w. and_then (text_upto n p (i + 1) w) (put_before b)) w)
text_suc n p i w = refl

pub text_more : (n : ℕ) (p : Value) (i : ℕ) (w : World) → 0 < n → text_upto n p i w ≡ and_then (byte_read p i w) (λ b w. either (b == 0) (Done []) (λ w. and_then (text_upto (n - 1) p (i + 1) w) (put_before b)) w)
text_more n p i w h =
    let e : n ≡ suc (n - 1) = omega (arith, h) in
    ap (λ (m : ℕ). text_upto m p i w) e ∙ text_suc (n - 1) p i w

writable_suc : (n : ℕ) (p : Value) (i : ℕ) (w : World) → writable (suc n) p i w ≡ unless (store_rule w.objects p i 1) (access_breach p i 1 w) (writable n p (i + 1)) w
writable_suc n p i w = refl

pub writable_more : (n : ℕ) (p : Value) (i : ℕ) (w : World) → 0 < n → writable n p i w ≡ unless (store_rule w.objects p i 1) (access_breach p i 1 w) (writable (n - 1) p (i + 1)) w
writable_more n p i w h =
    let e : n ≡ suc (n - 1) = omega (arith, h) in
    ap (λ (m : ℕ). writable m p i w) e ∙ writable_suc (n - 1) p i w

compared_suc : (n : ℕ) (to_zero : Bool) (p q : Value) (i : ℕ) (w : World) → bytes_compared (suc n) to_zero p q i w ≡ and_then (byte_read p i w) (λ a w. and_then (byte_read q i w) (λ b w. either (not (a == b) || to_zero && a == 0) (gives (order_of a b)) (bytes_compared n to_zero p q (i + 1)) w))
compared_suc n to_zero p q i w = refl

pub compared_more : (n : ℕ) (to_zero : Bool) (p q : Value) (i : ℕ) (w : World) → 0 < n → bytes_compared n to_zero p q i w ≡ and_then (byte_read p i w) (λ a w. and_then (byte_read q i w) (λ b w. either (not (a == b) || to_zero && a == 0) (gives (order_of a b)) (bytes_compared (n - 1) to_zero p q (i + 1)) w))
compared_more n to_zero p q i w h =
    let e : n ≡ suc (n - 1) = omega (arith, h) in
    ap (λ (m : ℕ). bytes_compared m to_zero p q i w) e ∙ compared_suc (n - 1) to_zero p q i w

first_suc : (n : ℕ) (p : Value) (c i : ℕ) (w : World) → first_found (suc n) p c i w ≡ and_then (byte_read p i w) (λ b w. either (b == c) (gives (moved p i)) (either (b == 0) (gives null) (first_found n p c (i + 1))) w)
first_suc n p c i w = refl

pub first_more : (n : ℕ) (p : Value) (c i : ℕ) (w : World) → 0 < n → first_found n p c i w ≡ and_then (byte_read p i w) (λ b w. either (b == c) (gives (moved p i)) (either (b == 0) (gives null) (first_found (n - 1) p c (i + 1))) w)
first_more n p c i w h =
    let e : n ≡ suc (n - 1) = omega (arith, h) in
    ap (λ (m : ℕ). first_found m p c i w) e ∙ first_suc (n - 1) p c i w

last_suc : (n : ℕ) (p : Value) (c i : ℕ) (found : Value) (w : World) → last_found (suc n) p c i found w ≡ and_then (byte_read p i w) (λ b w. either (b == 0) (gives (if b == c then moved p i else found)) (last_found n p c (i + 1) (if b == c then moved p i else found)) w)
last_suc n p c i found w = refl

pub last_more : (n : ℕ) (p : Value) (c i : ℕ) (found : Value) (w : World) → 0 < n → last_found n p c i found w ≡ and_then (byte_read p i w) (λ b w. either (b == 0) (gives (if b == c then moved p i else found)) (last_found (n - 1) p c (i + 1) (if b == c then moved p i else found)) w)
last_more n p c i found w h =
    let e : n ≡ suc (n - 1) = omega (arith, h) in
    ap (λ (m : ℕ). last_found m p c i found w) e ∙ last_suc (n - 1) p c i found w

class_suc : (m k n : ℕ) → class_from (suc m) k n ≡ (if nat_le (n + 1) (block_size k) then k else class_from m (k + 1) n)
class_suc m k n = refl

pub class_more : (k n : ℕ) → k < 29 → class_from (29 - k) k n ≡ (if nat_le (n + 1) (block_size k) then k else class_from (29 - (k + 1)) (k + 1) n)
class_more k n h =
    let e : 29 - k ≡ suc (29 - (k + 1)) = omega (arith, h) in
    ap (λ (m : ℕ). class_from m k n) e ∙ class_suc (29 - (k + 1)) k n

le_true : (m n : ℕ) → m ≤ n → nat_le m n ≡ true
le_true m n h = grind (arith, nat_tests, h)

le_false : (m n : ℕ) → n < m → nat_le m n ≡ false
le_false m n h = grind (arith, nat_tests, h)

-- the class that is asked for is k, or one behind it, or the last one; the test is as the program makes it
pub class_here : (k n m size chosen : ℕ) → k < 29 → class_from (29 - k) k n ≡ chosen → m ≡ n → size ≡ block_size k → m + 1 ≤ size → k ≡ chosen
class_here k n m size chosen h e p q t =
    let fits : n + 1 ≤ block_size k = subst (λ (b : ℕ). n + 1 ≤ b) q (subst (λ (a : ℕ). a + 1 ≤ size) p t) in
    sym (class_more k n h ∙ ap (λ (b : Bool). if b then k else class_from (29 - (k + 1)) (k + 1) n) (le_true (n + 1) (block_size k) fits)) ∙ e

pub class_behind : (k n m size chosen : ℕ) → k < 29 → class_from (29 - k) k n ≡ chosen → m ≡ n → size ≡ block_size k → size < m + 1 → class_from (29 - (k + 1)) (k + 1) n ≡ chosen
class_behind k n m size chosen h e p q t =
    let exceeds : block_size k < n + 1 = subst (λ (b : ℕ). b < n + 1) q (subst (λ (a : ℕ). size < a + 1) p t) in
    sym (class_more k n h ∙ ap (λ (b : Bool). if b then k else class_from (29 - (k + 1)) (k + 1) n) (le_false (n + 1) (block_size k) exceeds)) ∙ e

pub class_last : (k n chosen : ℕ) → 29 ≤ k → k ≤ 29 → class_from (29 - k) k n ≡ chosen → 29 ≡ chosen
class_last k n chosen h j e =
    let at_end : k ≡ 29 = omega (arith, h, j) in
    sym (ap (λ (m : ℕ). class_from (29 - m) m n) at_end) ∙ e
