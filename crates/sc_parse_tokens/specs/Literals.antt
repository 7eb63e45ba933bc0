-- Yardstick: to be compared with what it restates (docs/TRUST.md).
-- Strings and character constants (ANSI 3.1.3.4, 3.1.4), read a byte at a time.
use Rattle.std.specs.Prelude.{ℕ, ◌+◌, ◌*◌, ◌==◌, nat_lt, nat_le, Bool, true, false, ◌&&◌, if◌then◌else◌, List, [], ◌∷◌, ◌++◌, Option, Some, None}
use Rattle.sc_base.specs.declared.integer.Int.TheVariants as int
use Rattle.sc_parse_names.specs.declared.kind.Mark.TheVariants as mark
use Rattle.sc_parse_names.specs.declared.kind.Kind.{Kind}
use Rattle.sc_parse_names.specs.declared.kind.Kind.TheVariants as k
use Rattle.sc_parse_tokens.specs.declared.literal.Place.{Place}
use Rattle.sc_parse_tokens.specs.declared.literal.Place.TheVariants as at
use Rattle.sc_parse_tokens.specs.declared.literal.Literal.{Literal}
use Rattle.sc_lex_literals.specs.Constants.{digit_of, capped, simple}

abbrev pub literal : List ℕ → ℕ → Bool → Place → Literal
literal bytes count fits place = record { bytes = bytes; count = count; fits = fits; place = place }

-- Nothing was read.
abbrev pub start : Literal
start = literal [] 0 true at.Before

-- No literal begins so.
abbrev pub bad : Literal → Literal
bad r = literal r.bytes r.count r.fits at.Bad

-- one character more, or two where they are more
abbrev pub one_more : ℕ → ℕ
one_more n = if nat_lt n 2 then n + 1 else n

-- A character of this value; one above 255 is no byte.
abbrev pub gains : Literal → ℕ → Place → Literal
gains r value place = if nat_lt 255 value then literal r.bytes (one_more r.count) false place else literal (r.bytes ++ value ∷ []) (one_more r.count) r.fits place

abbrev pub moves : Literal → Place → Literal
moves r place = literal r.bytes r.count r.fits place

-- a byte where a character begins, or the quote that ends the literal
abbrev pub plain : ℕ → Literal → ℕ → Literal
plain quote r b = if b == quote then moves r at.Closed else if b == 92 then moves r at.Slash else gains r b at.Plain

abbrev pub escaped : Literal → Option ℕ → Literal
escaped r None = bad r
escaped r (Some value) = gains r value at.Plain

-- a byte behind a backslash
abbrev pub slash : Literal → ℕ → Literal
slash r b =
    if b == 120 then moves r (at.Hexadecimal None) else
    if nat_lt (digit_of b) 8 then moves r (at.Octal 1 (digit_of b)) else escaped r (simple b)

-- a value with one digit more
abbrev pub shifted : ℕ → ℕ → ℕ → ℕ
shifted value base digit = capped (capped value * base + digit)

-- An octal escape has three digits at most.
abbrev pub octal : ℕ → Literal → ℕ → ℕ → ℕ → Literal
octal quote r n value b =
    if nat_lt (digit_of b) 8 && nat_lt n 3 then moves r (at.Octal (n + 1) (shifted value 8 (digit_of b))) else plain quote (gains r value at.Plain) b

-- A hexadecimal escape has one digit at least.
abbrev pub unbegun : Literal → ℕ → Literal
unbegun r b = if nat_lt (digit_of b) 16 then moves r (at.Hexadecimal (Some (digit_of b))) else bad r

abbrev pub hexadecimal : ℕ → Literal → ℕ → ℕ → Literal
hexadecimal quote r value b = if nat_lt (digit_of b) 16 then moves r (at.Hexadecimal (Some (shifted value 16 (digit_of b)))) else plain quote (gains r value at.Plain) b

-- the quote at the beginning
abbrev pub opened : ℕ → Literal → ℕ → Literal
opened quote r b = if b == quote then moves r at.Plain else bad r

abbrev pub read_at : ℕ → Literal → ℕ → Place → Literal
read_at quote r b at.Before = opened quote r b
read_at quote r b at.Plain = plain quote r b
read_at quote r b at.Slash = slash r b
read_at quote r b (at.Octal n value) = octal quote r n value b
read_at quote r b (at.Hexadecimal None) = unbegun r b
read_at quote r b (at.Hexadecimal (Some value)) = hexadecimal quote r value b
read_at quote r b at.Closed = bad r
read_at quote r b at.Bad = bad r

-- One byte.
abbrev pub read : ℕ → Literal → ℕ → Literal
read quote r b = read_at quote r b r.place

-- all of the bytes
abbrev pub read_all : ℕ → Literal → List ℕ → Literal
read_all quote r [] = r
read_all quote r (b ∷ bytes) = read_all quote (read quote r b) bytes

abbrev pub is_closed : Place → Bool
is_closed at.Closed = true
is_closed _ = false

-- what a string is: with its bytes, unless an escape is above 255
abbrev pub string_of : Literal → Kind
string_of r = if is_closed r.place then k.Text r.fits else k.Other

abbrev pub one_byte : List ℕ → Kind
one_byte (b ∷ []) = k.Constant (Some (record { value = b; of = int.Int }))
one_byte _ = k.Constant None

-- What a character constant is: an `int` of its byte, which none is where an escape is above 255. None has no character, and one of more is left out.
abbrev pub counted : Literal → ℕ → Kind
counted r n = if n == 0 then k.Other else if n == 1 then one_byte r.bytes else k.LeftOut mark.MultiChar

abbrev pub character_of : Literal → Kind
character_of r = if is_closed r.place then counted r r.count else k.Other
