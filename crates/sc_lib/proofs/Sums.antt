-- Sums of digits, of which no more counts than that they are 2 ^ 32 or greater.
use Rattle.std.proofs.Common.{◌≡◌, ℕ, zero, suc, ◌+◌, ◌-◌, ◌*◌, ◌^◌, ◌<◌, ◌≤◌, ◌%◌, Bool, true, false, refl, sym, ap, ◌∙◌, arith, List}
use Rattle.std.proofs.lemmas.Bool.Decides.{nat_tests}
use Rattle.std.specs.Prelude.{min, nat_lt, nat_le, ◌==◌, if◌then◌else◌, ℤ, pos, neg_ℤ}
use Rattle.sc_base.specs.declared.key.Key.{Key}
use Rattle.sc_fmt.specs.Format.{is_digit}
use Rattle.sc_ops.specs.Numbers.{bits_of, is_in_range}
use Rattle.sc_meaning.specs.Values.{Value, Number}
use Rattle.sc_meaning.specs.World.{World}
use Rattle.sc_meaning.specs.Outcomes.{Outcome, Done, Over, and_then}
use Rattle.sc_meaning.specs.Expressions.{Answer, either}
use Rattle.sc_meaning.specs.Library.{byte_read, past, gives, out_of_range}
use Rattle.sc_meaning.specs.Functions.{Seen, digits_from, in_range, signed_value, unsigned_from, signed_from}
use Rattle.sc_lib.specs.Sums.{cut}

-- two sums that are cut to the same, with a digit more
alike : (s t d : ℕ) → min s (2 ^ 32) ≡ min t (2 ^ 32) → min (s * 10 + d) (2 ^ 32) ≡ min (t * 10 + d) (2 ^ 32)
alike s t d e = grind (arith, nat_tests)

-- what follows a byte that is read
read_alike : (r : Outcome ℕ) (f g : ℕ → World → Outcome ℕ) → ((c : ℕ) (w : World) → and_then (f c w) cut ≡ and_then (g c w) cut) → and_then (and_then r f) cut ≡ and_then (and_then r g) cut
read_alike (Done c w) f g h = h c w
read_alike (Over e) f g h = refl

either_alike : (b : Bool) (f g k l : World → Outcome ℕ) (w : World) → and_then (f w) cut ≡ and_then (g w) cut → and_then (k w) cut ≡ and_then (l w) cut → and_then (either b f k w) cut ≡ and_then (either b g l w) cut
either_alike true f g k l w p q = p
either_alike false f g k l w p q = q

digits_alike : (n : ℕ) (p : Value) (i b s t : ℕ) (w : World) → min s (2 ^ 32) ≡ min t (2 ^ 32) → and_then (digits_from n p i b s w) cut ≡ and_then (digits_from n p i b t w) cut
digits_alike zero p i b s t w e = ap (λ (m : ℕ). Done m w) e
digits_alike (suc n) p i b s t w e =
    either_alike (is_digit b) _ _ (Done s) (Done t) w
    (read_alike (byte_read p (i + 1) w) (λ c w. digits_from n p (i + 1) c (s * 10 + (b - 48)) w) (λ c w. digits_from n p (i + 1) c (t * 10 + (b - 48)) w) (λ c w. digits_alike n p (i + 1) c (s * 10 + (b - 48)) (t * 10 + (b - 48)) w (alike s t (b - 48) e)))
    (ap (λ (m : ℕ). Done m w) e)

min_twice : (m : ℕ) → min m (2 ^ 32) ≡ min (min m (2 ^ 32)) (2 ^ 32)
min_twice m = grind (arith, nat_tests)

next_alike : (n : ℕ) (p : Value) (i b s : ℕ) (r : Outcome ℕ) → and_then (and_then r (λ c w. digits_from n p i c (s * 10 + (b - 48)) w)) cut ≡ and_then r (λ c w. and_then (digits_from n p i c (min (s * 10 + (b - 48)) (2 ^ 32)) w) cut)
next_alike n p i b s (Done c w) = digits_alike n p i c (s * 10 + (b - 48)) (min (s * 10 + (b - 48)) (2 ^ 32)) w (min_twice (s * 10 + (b - 48)))
next_alike n p i b s (Over e) = refl

digits_suc : (n : ℕ) (p : Value) (i b s : ℕ) (w : World) → and_then (digits_from (suc n) p i b s w) cut ≡ either (is_digit b) (λ w. and_then (byte_read p (i + 1) w) (λ c w. and_then (digits_from n p (i + 1) c (min (s * 10 + (b - 48)) (2 ^ 32)) w) cut)) (cut s) w
digits_suc n p i b s w = elim (is_digit b) as (λ d. and_then (either d (λ w. and_then (byte_read p (i + 1) w) (λ c w. digits_from n p (i + 1) c (s * 10 + (b - 48)) w)) (Done s) w) cut ≡ either d (λ w. and_then (byte_read p (i + 1) w) (λ c w. and_then (digits_from n p (i + 1) c (min (s * 10 + (b - 48)) (2 ^ 32)) w) cut)) (cut s) w) [
  | true ↦ next_alike n p (i + 1) b s (byte_read p (i + 1) w)
  | false ↦ refl
]

pub digits_more : (n : ℕ) (p : Value) (i b s : ℕ) (w : World) → 0 < n → and_then (digits_from n p i b s w) cut ≡ either (is_digit b) (λ w. and_then (byte_read p (i + 1) w) (λ c w. and_then (digits_from (n - 1) p (i + 1) c (min (s * 10 + (b - 48)) (2 ^ 32)) w) cut)) (cut s) w
digits_more n p i b s w h =
    let e : n ≡ suc (n - 1) = omega (arith, h) in
    ap (λ (m : ℕ). and_then (digits_from m p i b s w) cut) e ∙ digits_suc (n - 1) p i b s w

-- numbers that are both none of `int`
out_alike : (key : Key) (vs : List Value) (z y : ℤ) (w : World) → is_in_range z ≡ false → is_in_range y ≡ false → in_range key vs z w ≡ in_range key vs y w
out_alike key vs z y w p q =
    ap (λ (b : Bool). either b (gives (Number (bits_of z))) (out_of_range key vs 1) w) p
    ∙ sym (ap (λ (b : Bool). either b (gives (Number (bits_of y))) (out_of_range key vs 1) w) q)

-- where a sum is cut at all, it was too great
kept : (n : ℕ) → nat_lt n (2 ^ 32) ≡ true → n ≡ min n (2 ^ 32)
kept n e = grind (arith, nat_tests, e)

great : (n : ℕ) → nat_lt n (2 ^ 32) ≡ false → 2 ^ 32 ≤ n
great n e = grind (arith, nat_tests, e)

natural_out : (n : ℕ) → 2 ^ 32 ≤ n → is_in_range (pos n) ≡ false
natural_out n h = grind (arith, nat_tests, h)

negative_out : (n : ℕ) → 2 ^ 32 ≤ n → is_in_range (neg_ℤ (pos n)) ≡ false
negative_out zero h = absurd (omega (arith, h))
negative_out (suc n) h = grind (arith, nat_tests, h)

least : (n : ℕ) → 2 ^ 32 ≤ n → 2 ^ 32 ≤ min n (2 ^ 32)
least n h = grind (arith, nat_tests, h)

alike_in : (f : ℕ → ℤ) → ((n : ℕ) → 2 ^ 32 ≤ n → is_in_range (f n) ≡ false) → (key : Key) (vs : List Value) (n : ℕ) (w : World) → in_range key vs (f n) w ≡ in_range key vs (f (min n (2 ^ 32))) w
alike_in f out key vs n w = elim (nat_lt n (2 ^ 32)) as (λ b. nat_lt n (2 ^ 32) ≡ b → in_range key vs (f n) w ≡ in_range key vs (f (min n (2 ^ 32))) w) [
  | true ↦ λ e. ap (λ (m : ℕ). in_range key vs (f m) w) (kept n e)
  | false ↦ λ e. out_alike key vs (f n) (f (min n (2 ^ 32))) w (out n (great n e)) (out (min n (2 ^ 32)) (least n (great n e)))
] refl

signed_out : (sign n : ℕ) → 2 ^ 32 ≤ n → is_in_range (signed_value sign n) ≡ false
signed_out sign n h = elim (sign == 45) as (λ b. is_in_range (if b then neg_ℤ (pos n) else pos n) ≡ false) [ true ↦ negative_out n h | false ↦ natural_out n h ]

cut_between : (r : Outcome ℕ) (f : ℕ → World → Outcome Answer) → ((n : ℕ) (w : World) → f n w ≡ f (min n (2 ^ 32)) w) → and_then r f ≡ and_then (and_then r cut) f
cut_between (Done n w) f h = h n w
cut_between (Over e) f h = refl

pub unsigned_cut : (key : Key) (vs : List Value) (p : Value) (s : Seen) (w : World) → unsigned_from key vs p s w ≡ and_then (and_then (digits_from (past w p) p s.at s.byte 0 w) cut) (λ n w. in_range key vs (pos n) w)
unsigned_cut key vs p s w = cut_between (digits_from (past w p) p s.at s.byte 0 w) (λ n w. in_range key vs (pos n) w) (alike_in pos natural_out key vs)

signed_rest : (key : Key) (vs : List Value) (p : Value) (s : Seen) (r : Outcome ℕ) → and_then r (λ b w. and_then (digits_from (past w p) p (s.at + 1) b 0 w) (λ n w. in_range key vs (signed_value s.byte n) w)) ≡ and_then r (λ b w. and_then (and_then (digits_from (past w p) p (s.at + 1) b 0 w) cut) (λ n w. in_range key vs (signed_value s.byte n) w))
signed_rest key vs p s (Done b w) = cut_between (digits_from (past w p) p (s.at + 1) b 0 w) (λ n w. in_range key vs (signed_value s.byte n) w) (alike_in (signed_value s.byte) (signed_out s.byte) key vs)
signed_rest key vs p s (Over e) = refl

pub signed_cut : (key : Key) (vs : List Value) (p : Value) (s : Seen) (w : World) → signed_from key vs p s w ≡ and_then (byte_read p (s.at + 1) w) (λ b w. and_then (and_then (digits_from (past w p) p (s.at + 1) b 0 w) cut) (λ n w. in_range key vs (signed_value s.byte n) w))
signed_cut key vs p s w = signed_rest key vs p s (byte_read p (s.at + 1) w)

-- the least `int` is as far from 0 as no other
pub negative_range : (n : ℕ) → is_in_range (neg_ℤ (pos n)) ≡ nat_le n (2 ^ 31)
negative_range zero = refl
negative_range (suc n) = grind (arith, nat_tests)

pub negative_bits : (n : ℕ) → n ≤ 2 ^ 31 → bits_of (neg_ℤ (pos n)) ≡ (2 ^ 32 - n) % 2 ^ 32
negative_bits zero h = refl
negative_bits (suc n) h = omega (arith, h)
