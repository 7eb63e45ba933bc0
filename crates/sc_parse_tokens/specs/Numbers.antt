-- Yardstick: to be compared with what it restates (docs/TRUST.md).
-- The integer constants (ANSI 3.1.3.2).
use Rattle.std.specs.Prelude.{ℕ, ◌+◌, ◌-◌, ◌*◌, ◌==◌, nat_lt, nat_le, Bool, true, false, ◌&&◌, ◌||◌, if◌then◌else◌, List, [], ◌∷◌, Option, Some, None}
use Rattle.sc_base.specs.declared.integer.Int.{Int}
use Rattle.sc_base.specs.declared.integer.Int.TheVariants as int
use Rattle.sc_lex_literals.specs.Constants.{digit_of, digits, suffix, begins_hex, behind_two}
use Rattle.sc_parse_names.specs.declared.kind.Kind.{Kind}
use Rattle.sc_parse_names.specs.declared.kind.Kind.TheVariants as k

-- The first type of its list that holds the value. `int` and `long` both have 32 bits.
abbrev pub type_of : Bool → ℕ → Bool → Bool → Int
type_of decimal value true true = int.ULong
type_of decimal value true false = int.UInt
type_of decimal value false true = if nat_le value 2147483647 then int.Long else int.ULong
type_of decimal value false false = if nat_le value 2147483647 then int.Int else (if decimal then int.ULong else int.UInt)

-- No type holds a value above 4294967295. What is no constant is nothing to the grammar.
abbrev pub constant : Bool → ℕ → Option (Bool × Bool) → Kind
constant decimal value None = k.Other
constant decimal value (Some (u, l)) = if nat_lt 4294967295 value then k.Constant None else k.Constant (Some (record { value = value; of = type_of decimal value u l }))

abbrev pub ended : Bool → ℕ × List ℕ → Kind
ended decimal r = constant decimal r.0 (suffix r.1)

-- in base 8 behind a zero, else in base 10
abbrev pub plain : List ℕ → Kind
plain [] = k.Other
plain (a ∷ bytes) =
    if a == 48 then ended false (digits 8 0 (a ∷ bytes)) else
    if nat_lt (digit_of a) 10 then ended true (digits 10 0 (a ∷ bytes)) else k.Other

-- what a preprocessing number is
abbrev pub number : List ℕ → Kind
number bytes = if begins_hex bytes then ended false (digits 16 0 (behind_two bytes)) else plain bytes
