-- Yardstick: to be compared with what it restates (docs/TRUST.md).
-- The classes of characters (ANSI 4.3) in the "C" locale, over ASCII. A byte above 127 is in none.
use Rattle.std.specs.Prelude.{ℕ, ◌+◌, Bool, not, ◌&&◌, ◌||◌, nat_le, ◌==◌, if◌then◌else◌}
use Rattle.sc_fmt.specs.Format.{is_digit}

abbrev pub is_upper : ℕ → Bool
is_upper c = nat_le 65 c && nat_le c 90

abbrev pub is_lower : ℕ → Bool
is_lower c = nat_le 97 c && nat_le c 122

abbrev pub is_alpha : ℕ → Bool
is_alpha c = is_upper c || is_lower c

abbrev pub is_alnum : ℕ → Bool
is_alnum c = is_alpha c || is_digit c

abbrev pub is_xdigit : ℕ → Bool
is_xdigit c = is_digit c || nat_le 65 c && nat_le c 70 || nat_le 97 c && nat_le c 102

-- space, form feed, new line, carriage return and the two tabs
abbrev pub is_space : ℕ → Bool
is_space c = c == 32 || c == 12 || c == 10 || c == 13 || c == 9 || c == 11

abbrev pub is_print : ℕ → Bool
is_print c = nat_le 32 c && nat_le c 126

abbrev pub is_graph : ℕ → Bool
is_graph c = is_print c && not (c == 32)

abbrev pub is_punct : ℕ → Bool
is_punct c = is_print c && not (c == 32 || is_alnum c)

abbrev pub is_cntrl : ℕ → Bool
is_cntrl c = nat_le c 31 || c == 127

-- the bit of a class that the character is in
abbrev pub mark : Bool → ℕ → ℕ
mark is_in bit = if is_in then bit else 0

-- one bit for each class
abbrev pub class_of : ℕ → ℕ
class_of c =
    mark (is_alnum c) 1 + mark (is_alpha c) 2 + mark (is_cntrl c) 4 + mark (is_digit c) 8 + mark (is_graph c) 16
    + mark (is_lower c) 32 + mark (is_print c) 64 + mark (is_punct c) 128 + mark (is_space c) 256
    + mark (is_upper c) 512 + mark (is_xdigit c) 1024
