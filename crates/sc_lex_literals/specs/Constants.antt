-- Yardstick: to be compared with what it restates (docs/TRUST.md).
-- What integer constants and character constants are made of (ANSI 3.1.3.2, 3.1.3.4): digits, suffixes, simple escapes.
use Rattle.std.specs.Prelude.{ℕ, ◌+◌, ◌-◌, ◌*◌, ◌==◌, nat_lt, nat_le, Bool, true, false, ◌&&◌, ◌||◌, if◌then◌else◌, List, [], ◌∷◌, Option, Some, None}

-- what a digit counts, to 15; or 16
abbrev pub digit_of : ℕ → ℕ
digit_of b =
    if nat_le 48 b && nat_le b 57 then b - 48 else
    if nat_le 97 b && nat_le b 102 then b - 87 else
    if nat_le 65 b && nat_le b 70 then b - 55 else 16

-- All above 4294967295 is 4294967296.
abbrev pub capped : ℕ → ℕ
capped n = if nat_lt 4294967295 n then 4294967296 else n

-- the digits of a base at the front, behind those of this value: what they are worth with them, and the bytes behind
abbrev pub digits : ℕ → ℕ → List ℕ → ℕ × List ℕ
digits base value [] = (value, [])
digits base value (b ∷ bytes) = if nat_lt (digit_of b) base then digits base (capped (value * base + digit_of b)) bytes else (value, b ∷ bytes)

abbrev pub is_u : ℕ → Bool
is_u b = b == 117 || b == 85

abbrev pub is_l : ℕ → Bool
is_l b = b == 108 || b == 76

-- whether a suffix has `u` and whether it has `l`; None for what is no suffix
abbrev pub suffix : List ℕ → Option (Bool × Bool)
suffix [] = Some (false, false)
suffix (a ∷ []) = if is_u a then Some (true, false) else if is_l a then Some (false, true) else None
suffix (a ∷ b ∷ []) = if (is_u a && is_l b) || (is_l a && is_u b) then Some (true, true) else None
suffix _ = None

-- whether hexadecimal digits stand behind `0x`
abbrev pub begins_hex : List ℕ → Bool
begins_hex (a ∷ b ∷ c ∷ bytes) = a == 48 && (b == 120 || b == 88) && nat_lt (digit_of c) 16
begins_hex _ = false

-- what stands behind `0x`
abbrev pub behind_two : List ℕ → List ℕ
behind_two (a ∷ b ∷ bytes) = bytes
behind_two bytes = bytes

-- a simple escape (ANSI 3.1.3.4)
abbrev pub simple : ℕ → Option ℕ
simple e =
    if e == 39 then Some 39 else
    if e == 34 then Some 34 else
    if e == 63 then Some 63 else
    if e == 92 then Some 92 else
    if e == 97 then Some 7 else
    if e == 98 then Some 8 else
    if e == 102 then Some 12 else
    if e == 110 then Some 10 else
    if e == 114 then Some 13 else
    if e == 116 then Some 9 else
    if e == 118 then Some 11 else None
