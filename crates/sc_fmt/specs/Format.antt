-- Yardstick: to be compared with what it restates (docs/TRUST.md).
-- The pieces of a format (ANSI 4.9.6.1): text, or a conversion `%[flags][width][.precision][h|l]kind`.
use Rattle.std.specs.Prelude.{ℕ, ◌+◌, ◌-◌, ◌^◌, min, Bool, not, ◌||◌, ◌&&◌, nat_le, ◌==◌, if◌then◌else◌, Option, Some, None, unwrap_or, List, [], ◌∷◌, length, drop, take_while, slice_index}
use Rattle.std.specs.List.{prefix_len, list_any}
use Rattle.std.specs.Str.Parse.{digits_value}
use Rattle.sc_fmt.specs.declared.conversion.Count.{Count}
use Rattle.sc_fmt.specs.declared.conversion.Count.TheVariants.{Fixed, Star}
use Rattle.sc_fmt.specs.declared.conversion.Piece.{Piece}
use Rattle.sc_fmt.specs.declared.conversion.Piece.TheVariants.{Text, End, Wrong}
use Rattle.sc_fmt.specs.declared.conversion.Piece.TheVariants.{Conv as Converts}

-- the first byte, or 0 where there is none
abbrev pub first : List ℕ → ℕ
first bs = slice_index bs 0

-- one of `-`, `+`, space, `#` and `0`
abbrev pub is_flag : ℕ → Bool
is_flag c = c == 45 || c == 43 || c == 32 || c == 35 || c == 48

abbrev pub is_digit : ℕ → Bool
is_digit c = nat_le 48 c && nat_le c 57

-- one of `d i o u x X c s %`
abbrev pub is_kind : ℕ → Bool
is_kind c = c == 100 || c == 105 || c == 111 || c == 117 || c == 120 || c == 88 || c == 99 || c == 115 || c == 37

abbrev pub has : List ℕ → ℕ → Bool
has flags c = list_any (λ f. f == c) flags

-- the number that decimal digits stand for, or 2^32 - 1 for every greater one
abbrev pub capped : List ℕ → ℕ
capped digits = min (digits_value 10 digits) (2 ^ 32 - 1)

-- a `*`, or decimal digits
abbrev pub count_len : List ℕ → ℕ
count_len bs = if first bs == 42 then 1 else prefix_len is_digit bs

abbrev pub count_at : List ℕ → Option Count
count_at bs =
    if first bs == 42 then Some Star
    else if prefix_len is_digit bs == 0 then None
    else Some (Fixed (capped (take_while is_digit bs)))

-- a period and a count, which is 0 where it is left out
abbrev pub precision_len : List ℕ → ℕ
precision_len bs = if first bs == 46 then 1 + count_len (drop 1 bs) else 0

abbrev pub precision_at : List ℕ → Option Count
precision_at bs = if first bs == 46 then Some (unwrap_or (count_at (drop 1 bs)) (Fixed 0)) else None

-- an `h` or an `l`
abbrev pub modifier_len : List ℕ → ℕ
modifier_len bs = if first bs == 104 || first bs == 108 then 1 else 0

-- where the parts of a conversion stand, whose first byte is a `%`
abbrev pub at_flags : List ℕ → List ℕ
at_flags bs = drop 1 bs

abbrev pub at_width : List ℕ → List ℕ
at_width bs = drop (prefix_len is_flag (at_flags bs)) (at_flags bs)

abbrev pub at_precision : List ℕ → List ℕ
at_precision bs = drop (count_len (at_width bs)) (at_width bs)

abbrev pub at_modifier : List ℕ → List ℕ
at_modifier bs = drop (precision_len (at_precision bs)) (at_precision bs)

abbrev pub at_kind : List ℕ → List ℕ
at_kind bs = drop (modifier_len (at_modifier bs)) (at_modifier bs)

-- the conversion of n bytes of these flags, with what stands from its width, precision, modifier and kind on
abbrev pub conversion_with : ℕ → List ℕ → List ℕ → List ℕ → List ℕ → List ℕ → Piece
conversion_with n flags width precision modifier kind =
    if is_kind (first kind)
    then Converts (record {
      minus = has flags 45;
      plus = has flags 43;
      space = has flags 32;
      alt = has flags 35;
      zero = has flags 48;
      width = count_at width;
      precision = precision_at precision;
      half = first modifier == 104;
      kind = first kind;
    }) n
    else Wrong

-- the conversion that begins with the first byte, a `%`
abbrev pub conversion_of : List ℕ → Piece
conversion_of bs =
    conversion_with (length bs - length (drop 1 (at_kind bs)))
    (take_while is_flag (at_flags bs)) (at_width bs) (at_precision bs) (at_modifier bs) (at_kind bs)

-- the piece at the head of what is left of a format
abbrev pub piece_of : List ℕ → Piece
piece_of [] = End
piece_of (c ∷ rest) = if c == 37 then conversion_of (c ∷ rest) else Text (prefix_len (λ b. not (b == 37)) (c ∷ rest))
