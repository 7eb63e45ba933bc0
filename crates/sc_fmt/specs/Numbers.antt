-- Yardstick: to be compared with what it restates (docs/TRUST.md).
-- How a conversion writes a number (ANSI 4.9.6.1).
use Rattle.std.specs.Prelude.{ℕ, ◌+◌, ◌-◌, ◌^◌, ◌%◌, max, Bool, true, false, not, ◌&&◌, ◌||◌, nat_lt, nat_le, ◌==◌, if◌then◌else◌, Option, Some, None, is_none, List, [], ◌∷◌, ◌++◌, map, length, replicate}
use Rattle.std.specs.Int.Digits.{digits_of}
use Rattle.sc_fmt.specs.declared.conversion.Conv.{Conv}
use Rattle.sc_fmt.specs.declared.conversion.Count.{Count}
use Rattle.sc_fmt.specs.declared.conversion.Count.TheVariants.{Fixed, Star}

-- one of `d i o u x X`
abbrev pub is_number_kind : ℕ → Bool
is_number_kind c = c == 100 || c == 105 || c == 111 || c == 117 || c == 120 || c == 88

-- no `*`
abbrev pub is_fixed : Option Count → Bool
is_fixed None = true
is_fixed (Some (Fixed n)) = true
is_fixed (Some Star) = false

-- a conversion of a number whose stars were taken
abbrev pub is_number : Conv → Bool
is_number p = is_number_kind p.kind && is_fixed p.width && is_fixed p.precision

-- the number of a count, or another one where there is none
abbrev pub number_or : ℕ → Option Count → ℕ
number_or n None = n
number_or n (Some (Fixed m)) = m
number_or n (Some Star) = n

-- `d` and `i` write a number with a sign
abbrev pub is_signed : Conv → Bool
is_signed p = p.kind == 100 || p.kind == 105

abbrev pub is_hexadecimal : Conv → Bool
is_hexadecimal p = p.kind == 120 || p.kind == 88

abbrev pub base_of : Conv → ℕ
base_of p = if p.kind == 111 then 8 else if is_hexadecimal p then 16 else 10

-- the bits that are converted: those of a short behind an `h`
abbrev pub taken : Conv → ℕ → ℕ
taken p v = if p.half then v % 2 ^ 16 else v % 2 ^ 32

-- whether the number is below zero, by its sign bit
abbrev pub is_negative : Conv → ℕ → Bool
is_negative p v = is_signed p && (if p.half then nat_le (2 ^ 15) (taken p v) else nat_le (2 ^ 31) (taken p v))

-- the number without its sign
abbrev pub magnitude : Conv → ℕ → ℕ
magnitude p v = if is_negative p v then (if p.half then 2 ^ 16 - taken p v else 2 ^ 32 - taken p v) else taken p v

-- a digit, in capitals for `X`
abbrev pub digit_char : Conv → ℕ → ℕ
digit_char p d = if nat_lt d 10 then 48 + d else if p.kind == 88 then 55 + d else 87 + d

-- the digits without leading zeros: none for 0
abbrev pub digits_text : Conv → ℕ → List ℕ
digits_text p n = map (digit_char p) (digits_of (base_of p) n)

-- the least number of digits: the precision or 1, and one more than the number has for `#` before `o`
abbrev pub least_digits : Conv → ℕ → ℕ
least_digits p len =
    let least : ℕ = number_or 1 p.precision in if p.alt && p.kind == 111 then max least (len + 1) else least

-- the digits with as many zeros in front as the least number asks for
abbrev pub body_text : Conv → ℕ → List ℕ
body_text p n =
    let digits : List ℕ = digits_text p n in
    replicate (least_digits p (length digits) - length digits) 48 ++ digits

-- what stands before the digits: a sign, or `0x` or `0X` for `#` before a hexadecimal number other than 0
abbrev pub prefix_text : Conv → ℕ → List ℕ
prefix_text p v =
    if is_negative p v then 45 ∷ []
    else if is_signed p && p.plus then 43 ∷ []
    else if is_signed p && p.space then 32 ∷ []
    else if is_hexadecimal p && p.alt && not (magnitude p v == 0) then 48 ∷ p.kind ∷ []
    else []

-- the prefix and the digits in a field of the width: spaces behind for `-`, zeros in between for `0` where neither `-`
-- nor a precision stands, else spaces before
abbrev pub field_text : Conv → List ℕ → List ℕ → List ℕ
field_text p prefix body =
    let gap : ℕ = number_or 0 p.width - (length prefix + length body) in
    if p.minus then prefix ++ body ++ replicate gap 32
    else if p.zero && is_none p.precision then prefix ++ replicate gap 48 ++ body
    else replicate gap 32 ++ prefix ++ body

-- what a conversion writes for a number of 32 bits
abbrev pub number_text : Conv → ℕ → List ℕ
number_text p v = field_text p (prefix_text p v) (body_text p (magnitude p v))
