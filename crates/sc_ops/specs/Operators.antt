-- Yardstick: to be compared with what it restates (docs/TRUST.md).
-- What the operators on integers give, and when they are undefined (ANSI 3.3).
use Rattle.std.specs.Prelude.{ℕ, zero, suc, ◌-◌, ◌*◌, ◌/◌, ◌%◌, ◌^◌, Bool, true, false, not, ◌&&◌, nat_lt, ◌==◌, if◌then◌else◌, ℤ, pos, negsuc, ◌+ℤ◌, ◌-ℤ◌, ◌*ℤ◌, neg_ℤ, int_div, int_rem, int_lt, int_le, bit_and, bit_or, bit_xor, Option, Some, None, Result, Ok, Err}
use Rattle.sc_base.specs.declared.integer.Int.{Int}
use Rattle.sc_base.specs.declared.operator.Op.{Op}
use Rattle.sc_base.specs.declared.operator.Op.TheVariants.{Add, Sub, Mul, Div, Rem, Shl, Shr, And, Or, Xor, Lt, Gt, Le, Ge, Eq, Ne, Neg, Not, Truth, Inc, Dec}
use Rattle.sc_base.specs.declared.report.Rule.{Rule}
use Rattle.sc_base.specs.declared.report.Rule.TheVariants.{U7, U8, U9}
use Rattle.sc_ops.specs.Numbers.{is_signed, promoted, number_of, bits_of, is_in_range}

-- 1 for what is true, 0 for what is not
abbrev pub truth_of : Bool → ℕ
truth_of true = 1
truth_of false = 0

-- the number divided by 2^k and rounded down: a shift right that copies the sign
abbrev pub shifted_down : ℤ → ℕ → ℤ
shifted_down (pos n) k = pos (n / 2 ^ k)
shifted_down (negsuc n) k = negsuc (n / 2 ^ k)

-- the number in the promoted type
abbrev pub operand : Int → ℕ → ℤ
operand i v = number_of (promoted i) v

-- the exact number of + - * / % unary - ++ --
abbrev pub exact : Op → ℤ → ℤ → ℤ
exact Add x y = x +ℤ y
exact Sub x y = x -ℤ y
exact Mul x y = x *ℤ y
exact Div x y = int_div x y
exact Rem x y = int_rem x y
exact Neg _ y = neg_ℤ y
exact Inc x _ = x +ℤ pos 1
exact Dec x _ = x -ℤ pos 1
exact _ _ _ = pos 0

abbrev pub is_arithmetic : Op → Bool
is_arithmetic Add = true
is_arithmetic Sub = true
is_arithmetic Mul = true
is_arithmetic Div = true
is_arithmetic Rem = true
is_arithmetic Neg = true
is_arithmetic Inc = true
is_arithmetic Dec = true
is_arithmetic _ = false

abbrev pub is_division : Op → Bool
is_division Div = true
is_division Rem = true
is_division _ = false

abbrev pub is_shift : Op → Bool
is_shift Shl = true
is_shift Shr = true
is_shift _ = false

-- the number that has to be in range: the result, and for % the quotient
abbrev pub tested : Op → ℤ → ℤ → ℤ
tested Rem x y = int_div x y
tested op x y = exact op x y

-- whether a signed result is out of range
abbrev pub is_out_of_range : Op → Int → ℕ → ℕ → Bool
is_out_of_range op i a b =
    is_arithmetic op && is_signed (promoted i) && not (is_in_range (tested op (operand i a) (operand i b)))

-- the rule that the operation breaks
abbrev pub rule_of : Op → Int → ℕ → ℕ → Option Rule
rule_of op i a b =
    if is_division op && b == 0 then Some U8
    else if is_shift op && nat_lt 31 b then Some U9
    else if is_out_of_range op i a b then Some U7
    else None

-- the bits of the result, where no rule is broken
abbrev pub value_of : Op → Int → ℕ → ℕ → ℕ
value_of Shl i a b = a * 2 ^ b % 2 ^ 32
value_of Shr i a b = bits_of (shifted_down (operand i a) b)
value_of And i a b = bit_and a b
value_of Or i a b = bit_or a b
value_of Xor i a b = bit_xor a b
value_of Not i a b = 2 ^ 32 - 1 - b
value_of Lt i a b = truth_of (int_lt (operand i a) (operand i b))
value_of Gt i a b = truth_of (int_lt (operand i b) (operand i a))
value_of Le i a b = truth_of (int_le (operand i a) (operand i b))
value_of Ge i a b = truth_of (int_le (operand i b) (operand i a))
value_of Eq i a b = truth_of (a == b)
value_of Ne i a b = truth_of (not (a == b))
value_of Truth i a b = truth_of (not (a == 0))
value_of op i a b = bits_of (exact op (operand i a) (operand i b))

-- the value, or the rule
abbrev pub unless_broken : Option Rule → ℕ → Result ℕ Rule
unless_broken None v = Ok v
unless_broken (Some rule) v = Err rule

abbrev pub result_of : Op → Int → ℕ → ℕ → Result ℕ Rule
result_of op i a b = unless_broken (rule_of op i a b) (value_of op i a b)

-- a signed result, if the number that is tested is in range
abbrev pub checked : ℤ → ℤ → Result ℕ Rule
checked z result = if is_in_range z then Ok (bits_of result) else Err U7

-- a quotient or remainder, if the divisor is not zero
abbrev pub divided : ℤ → Result ℕ Rule → Result ℕ Rule
divided (pos zero) r = Err U8
divided (pos (suc n)) r = r
divided (negsuc n) r = r
