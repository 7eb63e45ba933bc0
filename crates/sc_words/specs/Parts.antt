-- Yardstick: to be compared with what it restates (docs/TRUST.md).
-- What the words of a command may be: names, files and numbers.
use Rattle.std.specs.Prelude.{ℕ, Bool, false, ◌&&◌, ◌||◌, ◌+◌, List, [], ◌∷◌, length, take, drop, Option, option_map, ◌==◌, nat_le, position}
use Rattle.std.specs.List.{list_all}
use Rattle.std.specs.Str.Parse.{digits_value}

abbrev pub is_between : ℕ → ℕ → ℕ → Bool
is_between low high b = nat_le low b && nat_le b high

abbrev pub is_letter : ℕ → Bool
is_letter b = is_between 65 90 b || is_between 97 122 b

abbrev pub is_digit : ℕ → Bool
is_digit b = is_between 48 57 b

-- a letter, a digit or an underscore
abbrev pub is_name_byte : ℕ → Bool
is_name_byte b = is_letter b || is_digit b || b == 95

-- a letter, and up to 30 letters, digits or underscores
abbrev pub is_module_name : List ℕ → Bool
is_module_name [] = false
is_module_name (b ∷ bytes) = is_letter b && list_all is_name_byte bytes && nat_le (length bytes) 30

-- a letter or an underscore, and letters, digits or underscores (ANSI 3.1.2), 255 in all
abbrev pub is_identifier : List ℕ → Bool
is_identifier [] = false
is_identifier (b ∷ bytes) = (is_letter b || b == 95) && list_all is_name_byte bytes && nat_le (length bytes) 254

-- a letter, a digit, an underscore, a period or a hyphen
abbrev pub is_file_byte : ℕ → Bool
is_file_byte b = is_name_byte b || b == 46 || b == 45

-- up to 63 of them, the first no period and no hyphen
abbrev pub is_file_name : List ℕ → Bool
is_file_name [] = false
is_file_name (b ∷ bytes) = is_name_byte b && list_all is_file_byte bytes && nat_le (length bytes) 62

-- one digit or more, at most so many
abbrev pub is_numeral : ℕ → List ℕ → Bool
is_numeral most digits = list_all is_digit digits && nat_le 1 (length digits) && nat_le (length digits) most

abbrev pub number_of : List ℕ → ℕ
number_of = digits_value 10

-- what stands before the first colon, and what stands behind it
abbrev pub parts_of : List ℕ → Option (List ℕ × List ℕ)
parts_of place = option_map (λ i. (take i place, drop (i + 1) place)) (position (λ b. b == 58) place)
