-- What a machine of 32 bits computes, and what C means by it.
use Rattle.std.proofs.Common.{◌≡◌, ℕ, zero, suc, ◌+◌, ◌-◌, ◌*◌, ◌/◌, ◌%◌, ◌^◌, ◌<◌, ◌≤◌, ◌≢◌, ◌==◌, Bool, true, false, not, if◌then◌else◌, nat_lt, nat_le, ℤ, pos, negsuc, ◌+ℤ◌, ◌-ℤ◌, ◌*ℤ◌, neg_ℤ, int_div, int_rem, int_lt, int_le, refl, sym, ap, ap₂, ◌∙◌, subst, arith}
use Rattle.std.specs.Prelude.{bit_and, bit_xor}
use Rattle.std.specs.Int.{w32, cast_unsigned, int_shr, int_wrap}
use Rattle.std.specs.Int.Bits.{xor_add_and, xor_self}
use Rattle.std.proofs.Math.Nat.{mod-eq_of_lt, mod-le, div-le_self}
use Rattle.std.proofs.lemmas.Nat.{and_le_l, and_le_r}
use Rattle.std.proofs.lemmas.Grind.{and_numeral}
use Rattle.std.proofs.lemmas.Int.{ints, wrapping_mul-bits, int_wrap_fits}
use Rattle.std.proofs.lemmas.Bool.Decides.{nat_tests}
use Rattle.std.specs.Prelude.{FitsSigned}
use Rattle.sc_ops.specs.Numbers.{number_of_low, is_in_range, bits_of as bits_in}
use Rattle.sc_ops.specs.Operators.{shifted_down, truth_of}
use Rattle.sc_emu.specs.Operations.{signed, bits_of, truth, sum, difference, shifted_left, shifted_right, shifted_signed, quotient, remainder, unsigned_quotient, unsigned_remainder}

-- a number of 32 bits, with the sign bit or without
abbrev pub number : Bool → ℕ → ℤ
number s v = number_of_low 32 s v

pub signed_is : (v : ℕ) → v < 4294967296 → signed v ≡ number true v
signed_is v h = grind (arith, ints, nat_tests, h)

pub unsigned_is : (v : ℕ) → v < 4294967296 → number false v ≡ pos v
unsigned_is v h = ap pos (omega (arith, h))

pub cast_is : (z : ℤ) → is_in_range z ≡ true → cast_unsigned w32 z ≡ bits_in z
cast_is (pos n) h = grind (arith, nat_tests, h)
cast_is (negsuc n) h = grind (arith, nat_tests, h)

pub back : (v : ℕ) → v < 4294967296 → bits_in (number true v) ≡ v
back v h = grind (arith, ints, nat_tests, h)

pub sum_is : (s : Bool) (a b : ℕ) → a < 4294967296 → b < 4294967296 → sum a b ≡ bits_in (number s a +ℤ number s b)
sum_is true a b p q = grind (arith, ints, nat_tests, p, q)
sum_is false a b p q = omega (arith, p, q)

pub difference_is : (s : Bool) (a b : ℕ) → a < 4294967296 → b < 4294967296 → difference a b ≡ bits_in (number s a -ℤ number s b)
difference_is true a b p q = grind (arith, ints, nat_tests, p, q)
difference_is false a b p q = grind (arith, ints, nat_tests, p, q)

fits : (z : ℤ) → is_in_range z ≡ true → FitsSigned w32 z
fits (pos n) h = record { sfits = grind (arith, nat_tests, h) }
fits (negsuc n) h = record { sfits = grind (arith, nat_tests, h) }

pub product_signed : (a b : ℕ) → a < 4294967296 → b < 4294967296 → is_in_range (number true a *ℤ number true b) ≡ true → a * b % 4294967296 ≡ bits_in (number true a *ℤ number true b)
product_signed a b p q h =
    let both : signed a *ℤ signed b ≡ number true a *ℤ number true b = ap₂ (λ x y. x *ℤ y) (signed_is a p) (signed_is b q) in
    let low : a * b % 4294967296 < 4294967296 = omega arith in
    let wrapped : signed (a * b % 4294967296) ≡ number true a *ℤ number true b =
    wrapping_mul-bits w32 a b p q ∙ ap (int_wrap w32) both ∙ int_wrap_fits w32 (number true a *ℤ number true b) (fits (number true a *ℤ number true b) h) in
    sym (back (a * b % 4294967296) low) ∙ ap bits_in (sym (signed_is (a * b % 4294967296) low) ∙ wrapped)

pub product_unsigned : (a b : ℕ) → a < 4294967296 → b < 4294967296 → a * b % 4294967296 ≡ bits_in (number false a *ℤ number false b)
product_unsigned a b p q = ap bits_in (sym (ap₂ (λ x y. x *ℤ y) (unsigned_is a p) (unsigned_is b q)))

-- ---- division
test_false : {A : Type 0} (b : Bool) (x y : A) → b ≡ false → (if b then x else y) ≡ y
test_false false x y e = refl
test_false true x y e = absurd (cc (e))

pub number_range : (v : ℕ) → v < 4294967296 → is_in_range (number true v) ≡ true
number_range v h = grind (arith, ints, nat_tests, h)

low_range : (n m : ℕ) → nat_lt n 2147483648 ≡ true → m ≤ n → nat_lt m 2147483648 ≡ true
low_range n m h le = grind (arith, nat_tests, h, le)

negative_range : (r a : ℕ) → nat_lt a 2147483648 ≡ true → r ≤ suc a → is_in_range (neg_ℤ (pos r)) ≡ true
negative_range zero a h le = refl
negative_range (suc r) a h le = grind (arith, nat_tests, h, le)

rest_range : (z d : ℤ) → is_in_range z ≡ true → is_in_range (int_rem z d) ≡ true
rest_range (pos a) d h = low_range a _ h (mod-le a _)
rest_range (negsuc a) d h = negative_range _ a h (mod-le (suc a) _)

pub quotient_signed : (a b : ℕ) → a < 4294967296 → b < 4294967296 → (b == 0) ≡ false → is_in_range (int_div (number true a) (number true b)) ≡ true → quotient a b ≡ bits_in (int_div (number true a) (number true b))
quotient_signed a b p q e h =
    test_false (b == 0) _ (bits_of (int_div (signed a) (signed b))) e ∙ ap₂ (λ x y. bits_of (int_div x y)) (signed_is a p) (signed_is b q) ∙ cast_is (int_div (number true a) (number true b)) h

pub remainder_signed : (a b : ℕ) → a < 4294967296 → b < 4294967296 → (b == 0) ≡ false → remainder a b ≡ bits_in (int_rem (number true a) (number true b))
remainder_signed a b p q e =
    test_false (b == 0) _ (bits_of (int_rem (signed a) (signed b))) e ∙ ap₂ (λ x y. bits_of (int_rem x y)) (signed_is a p) (signed_is b q)
    ∙ cast_is (int_rem (number true a) (number true b)) (rest_range (number true a) (number true b) (number_range a p))

small : (n m : ℕ) → n ≤ m → m < 4294967296 → n ≡ n % 4294967296
small n m le lt = omega (arith, le, lt)

pub quotient_unsigned : (a b : ℕ) → a < 4294967296 → b < 4294967296 → (b == 0) ≡ false → unsigned_quotient a b ≡ bits_in (int_div (number false a) (number false b))
quotient_unsigned a b p q e =
    test_false (b == 0) _ (a / b) e ∙ small (a / b) a (div-le_self a b) p ∙ ap bits_in (sym (ap₂ (λ x y. int_div x y) (unsigned_is a p) (unsigned_is b q)))

pub remainder_unsigned : (a b : ℕ) → a < 4294967296 → b < 4294967296 → (b == 0) ≡ false → unsigned_remainder a b ≡ bits_in (int_rem (number false a) (number false b))
remainder_unsigned a b p q e =
    test_false (b == 0) _ (a % b) e ∙ small (a % b) a (mod-le a b) p ∙ ap bits_in (sym (ap₂ (λ x y. int_rem x y) (unsigned_is a p) (unsigned_is b q)))

-- ---- shifts, by fewer than 32 places
few : (b : ℕ) → nat_lt 31 b ≡ false → b < 32
few b e = grind (arith, nat_tests, e)

pub places : (b : ℕ) → nat_lt 31 b ≡ false → b % 32 ≡ b
places b e = mod-eq_of_lt (few b e)

pub left_is : (a b : ℕ) → nat_lt 31 b ≡ false → shifted_left a b ≡ a * 2 ^ b % 4294967296
left_is a b e = ap (λ k. a * 2 ^ k % 4294967296) (places b e)

pub right_unsigned : (a b : ℕ) → a < 4294967296 → nat_lt 31 b ≡ false → shifted_right a b ≡ bits_in (shifted_down (number false a) b)
right_unsigned a b p e =
    ap (λ k. a / 2 ^ k) (places b e) ∙ small (a / 2 ^ b) a (div-le_self a (2 ^ b)) p ∙ ap (λ z. bits_in (shifted_down z b)) (sym (unsigned_is a p))

down_is : (z : ℤ) (k : ℕ) → int_shr z k ≡ shifted_down z k
down_is (pos n) k = refl
down_is (negsuc n) k = refl

down_range : (z : ℤ) (k : ℕ) → is_in_range z ≡ true → is_in_range (shifted_down z k) ≡ true
down_range (pos n) k h = low_range n (n / 2 ^ k) h (div-le_self n (2 ^ k))
down_range (negsuc n) k h = low_range n (n / 2 ^ k) h (div-le_self n (2 ^ k))

pub right_signed : (a b : ℕ) → a < 4294967296 → nat_lt 31 b ≡ false → shifted_signed a b ≡ bits_in (shifted_down (number true a) b)
right_signed a b p e =
    ap₂ (λ z k. bits_of (int_shr z k)) (signed_is a p) (places b e) ∙ ap bits_of (down_is (number true a) b) ∙ cast_is (shifted_down (number true a) b) (down_range (number true a) b (number_range a p))

-- ---- tests
pub truth_is : (b : Bool) → truth b ≡ truth_of b
truth_is true = refl
truth_is false = refl

pub inverted_is : (b : Bool) → bit_xor (truth b) 1 ≡ truth_of (not b)
inverted_is true = refl
inverted_is false = refl

pub less_signed : (a b : ℕ) → a < 4294967296 → b < 4294967296 → int_lt (signed a) (signed b) ≡ int_lt (number true a) (number true b)
less_signed a b p q = ap₂ (λ x y. int_lt x y) (signed_is a p) (signed_is b q)

pub less_unsigned : (a b : ℕ) → a < 4294967296 → b < 4294967296 → nat_lt a b ≡ int_lt (number false a) (number false b)
less_unsigned a b p q = sym (ap₂ (λ x y. int_lt x y) (unsigned_is a p) (unsigned_is b q))

not_less : (a b : ℕ) → not (nat_lt b a) ≡ nat_le a b
not_less a b = grind (arith, nat_tests)

pub not_lt : (x y : ℤ) → not (int_lt y x) ≡ int_le x y
not_lt (pos a) (pos b) = not_less a b
not_lt (pos a) (negsuc b) = refl
not_lt (negsuc a) (pos b) = refl
not_lt (negsuc a) (negsuc b) = not_less b a

xor_apart : (a b : ℕ) → bit_xor a b ≡ 0 → a ≡ b
xor_apart a b e = omega (arith, e, xor_add_and a b, and_le_l a b, and_le_r a b)

is_equal : (a b : ℕ) → (a == b) ≡ true → a ≡ b
is_equal a b e = grind (arith, nat_tests, e)

is_apart : (a b : ℕ) → (a == b) ≡ false → a ≢ b
is_apart a b e q = grind (arith, nat_tests, e, q)

below_one : (n : ℕ) → n ≢ 0 → nat_lt n 1 ≡ false
below_one n ne = grind (arith, nat_tests, ne)

above_zero : (n : ℕ) → n ≢ 0 → nat_lt 0 n ≡ true
above_zero n ne = grind (arith, nat_tests, ne)

xor_by : (a b : ℕ) (t : Bool) → (a == b) ≡ t → nat_lt (bit_xor a b) 1 ≡ t
xor_by a b true e = subst (λ c. nat_lt (bit_xor a c) 1 ≡ true) (is_equal a b e) (ap (λ k. nat_lt k 1) (xor_self a))
xor_by a b false e = below_one (bit_xor a b) (λ z. is_apart a b e (xor_apart a b z))

pub equal_is : (a b : ℕ) → nat_lt (bit_xor a b) 1 ≡ (a == b)
equal_is a b = xor_by a b (a == b) refl

differ_by : (a b : ℕ) (t : Bool) → (a == b) ≡ t → nat_lt 0 (bit_xor a b) ≡ not t
differ_by a b true e = subst (λ c. nat_lt 0 (bit_xor a c) ≡ false) (is_equal a b e) (ap (λ k. nat_lt 0 k) (xor_self a))
differ_by a b false e = above_zero (bit_xor a b) (λ z. is_apart a b e (xor_apart a b z))

pub differ_is : (a b : ℕ) → nat_lt 0 (bit_xor a b) ≡ not (a == b)
differ_is a b = differ_by a b (a == b) refl

pub zero_is : (a : ℕ) → nat_lt a 1 ≡ (a == 0)
zero_is a = grind (arith, nat_tests)

pub true_is : (a : ℕ) → nat_lt 0 a ≡ not (a == 0)
true_is a = grind (arith, nat_tests)

pub taken_not : (b : Bool) → not (truth_of b == 0) ≡ b
taken_not true = refl
taken_not false = refl

-- ---- one operand
pub negative_is : (s : Bool) (a : ℕ) → a < 4294967296 → difference 0 a ≡ bits_in (neg_ℤ (number s a))
negative_is true a p = grind (arith, ints, nat_tests, p)
negative_is false a p = grind (arith, ints, nat_tests, p)

pub complement_is : (a : ℕ) → a < 4294967296 → bit_xor a 4294967295 ≡ 4294967295 - a
complement_is a p =
    let low : bit_and a 4294967295 ≡ a = and_numeral a 4294967294 refl ∙ mod-eq_of_lt p in
    omega (arith, xor_add_and a 4294967295, low, p)

-- ---- constants
pub negated_constant : (a b : ℕ) → b < 4294967296 → sum a ((0 + (4294967296 - b)) % 4294967296) ≡ difference a b
negated_constant a b q = omega (arith, q)
