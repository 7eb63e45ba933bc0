-- Yardstick: to be compared with what it restates (docs/TRUST.md).
-- Numbers of 32 bits, in two's complement where they are signed; what does not fit wraps (ANSI 3.3.3.3, 3.3.5 to 3.3.8).
use Rattle.std.specs.Prelude.{ℕ, ◌+◌, ◌-◌, ◌*◌, ◌/◌, ◌%◌, ◌^◌, ◌==◌, nat_lt, nat_le, Bool, not, ◌||◌, if◌then◌else◌}

abbrev pub is_negative : ℕ → Bool
is_negative a = nat_le 2147483648 a

abbrev pub minus : ℕ → ℕ
minus a = if a == 0 then 0 else 4294967296 - a

-- the number without its sign
abbrev pub magnitude : ℕ → ℕ
magnitude a = if is_negative a then minus a else a

abbrev pub with_sign : Bool → ℕ → ℕ
with_sign negative a = if negative then minus a else a

abbrev pub sum : ℕ → ℕ → ℕ
sum a b = (a + b) % 4294967296

abbrev pub difference : ℕ → ℕ → ℕ
difference a b = (a + 4294967296 - b) % 4294967296

abbrev pub product : ℕ → ℕ → ℕ
product a b = (a * b) % 4294967296

-- Both have the same sign.
abbrev pub alike : ℕ → ℕ → Bool
alike a b = if is_negative a then is_negative b else not (is_negative b)

-- The quotient goes towards zero, and the remainder has the sign of the dividend.
abbrev pub signed_quotient : ℕ → ℕ → ℕ
signed_quotient a b = with_sign (not (alike a b)) (magnitude a / magnitude b)

abbrev pub signed_remainder : ℕ → ℕ → ℕ
signed_remainder a b = with_sign (is_negative a) (magnitude a % magnitude b)

-- by zero it is 0 here, and nobody asks for it
abbrev pub quotient : Bool → ℕ → ℕ → ℕ
quotient unsigned a b = if b == 0 then 0 else if unsigned then a / b else signed_quotient a b

abbrev pub remainder : Bool → ℕ → ℕ → ℕ
remainder unsigned a b = if b == 0 then 0 else if unsigned then a % b else signed_remainder a b

abbrev pub is_less : Bool → ℕ → ℕ → Bool
is_less unsigned a b = if unsigned || alike a b then nat_lt a b else is_negative a

-- A shift takes the low five bits of the count.
abbrev pub shifted_left : ℕ → ℕ → ℕ
shifted_left a count = (a * 2 ^ (count % 32)) % 4294967296

-- A signed number is divided towards minus infinity.
abbrev pub shifted_right : Bool → ℕ → ℕ → ℕ
shifted_right unsigned a count =
    if unsigned || not (is_negative a) then a / 2 ^ (count % 32) else 4294967295 - (4294967295 - a) / 2 ^ (count % 32)
