-- Yardstick: to be compared with what it restates (docs/TRUST.md).
-- The constants of `#if` (ANSI 3.1.3.2, 3.8.1): what a preprocessing number is worth.
use Rattle.std.specs.Prelude.{ℕ, ◌+◌, ◌-◌, ◌*◌, ◌==◌, nat_lt, nat_le, Bool, true, false, ◌&&◌, ◌||◌, if◌then◌else◌, List, [], ◌∷◌, length, Option, Some, None}
use Rattle.sc_lex_literals.specs.Constants.{digit_of, digits, suffix, begins_hex, behind_two, simple}
use Rattle.sc_pp_condition.specs.declared.number.Value.{Value}

-- A number above 4294967295 is none, and one above 2147483647 is unsigned.
abbrev pub typed : ℕ → Option (Bool × Bool) → Option Value
typed value None = None
typed value (Some (u, l)) = if nat_lt 4294967295 value then None else Some (record { bits = value; is_unsigned = u || nat_lt 2147483647 value })

abbrev pub ended : ℕ × List ℕ → Option Value
ended r = typed r.0 (suffix r.1)

-- in base 8 behind a zero, else in base 10
abbrev pub plain : List ℕ → Option Value
plain [] = None
plain (a ∷ bytes) =
    if a == 48 then ended (digits 8 0 (a ∷ bytes)) else
    if nat_lt (digit_of a) 10 then ended (digits 10 0 (a ∷ bytes)) else None

-- what the integer constant is worth; None where it is none, or too large
abbrev pub number_value : List ℕ → Option Value
number_value bytes = if begins_hex bytes then ended (digits 16 0 (behind_two bytes)) else plain bytes

abbrev pub is_quote : List ℕ → Bool
is_quote (q ∷ []) = q == 39
is_quote _ = false

-- a byte by its number, where the quote stands behind it
abbrev pub numbered : ℕ × List ℕ → Option ℕ
numbered r = if is_quote r.1 && nat_le r.0 255 then Some r.0 else None

abbrev pub begins_digit : List ℕ → Bool
begins_digit [] = false
begins_digit (b ∷ bytes) = nat_lt (digit_of b) 16

-- An octal escape has three digits at most.
abbrev pub escaped_by : ℕ → List ℕ → Option ℕ
escaped_by e bytes =
    if e == 120 then (if begins_digit bytes then numbered (digits 16 0 bytes) else None) else
    if nat_lt (digit_of e) 8 then (if nat_le (length bytes) 3 then numbered (digits 8 0 (e ∷ bytes)) else None) else
    if is_quote bytes then simple e else None

abbrev pub escaped : List ℕ → Option ℕ
escaped [] = None
escaped (e ∷ bytes) = escaped_by e bytes

abbrev pub character : ℕ → List ℕ → Option ℕ
character b bytes = if b == 92 then escaped bytes else if is_quote bytes then Some b else None

abbrev pub signed : Option ℕ → Option Value
signed None = None
signed (Some n) = Some (record { bits = n; is_unsigned = false })

-- what the character constant is worth; None where it has not one character, or a bad escape
abbrev pub character_value : List ℕ → Option Value
character_value (q ∷ b ∷ bytes) = signed (character b bytes)
character_value _ = None
