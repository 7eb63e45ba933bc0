-- Yardstick: to be compared with what it restates (docs/TRUST.md).
-- Integer types and the numbers that bits stand for (ANSI 3.1.2.5, 3.2.1).
use Rattle.std.specs.Prelude.{ℕ, ◌-◌, ◌%◌, ◌^◌, Bool, true, false, ◌&&◌, nat_lt, nat_le, if◌then◌else◌, ℤ, pos, negsuc}
use Rattle.sc_base.specs.declared.integer.Int.{Int}
use Rattle.sc_base.specs.declared.integer.Int.TheVariants.{Char, SChar, UChar, Short, UShort, UInt, Long, ULong}
use Rattle.sc_base.specs.declared.integer.Int.TheVariants.{Int as PlainInt}

-- how many bits the type has
abbrev pub bit_size : Int → ℕ
bit_size Char = 8
bit_size SChar = 8
bit_size UChar = 8
bit_size Short = 16
bit_size UShort = 16
bit_size PlainInt = 32
bit_size UInt = 32
bit_size Long = 32
bit_size ULong = 32

-- whether the type has negative numbers; plain `char` has none
abbrev pub is_signed : Int → Bool
is_signed Char = false
is_signed SChar = true
is_signed UChar = false
is_signed Short = true
is_signed UShort = false
is_signed PlainInt = true
is_signed UInt = false
is_signed Long = true
is_signed ULong = false

-- the integral promotion (3.2.1.1): `int` holds every number of the types below it
abbrev pub promoted : Int → Int
promoted Char = PlainInt
promoted SChar = PlainInt
promoted UChar = PlainInt
promoted Short = PlainInt
promoted UShort = PlainInt
promoted PlainInt = PlainInt
promoted UInt = UInt
promoted Long = Long
promoted ULong = ULong

-- the number of the low n bits, of which the top one counts -2^(n - 1) in a signed type
abbrev pub number_of_low : ℕ → Bool → ℕ → ℤ
number_of_low n signed v =
    let low = v % 2 ^ n in if signed && nat_le (2 ^ (n - 1)) low then negsuc (2 ^ n - 1 - low) else pos low

-- the number of the type that these bits stand for: of its range, the one that is equal modulo 2^n
abbrev pub number_of : Int → ℕ → ℤ
number_of i v = number_of_low (bit_size i) (is_signed i) v

-- the 32 bits that stand for a number: the number modulo 2^32
abbrev pub bits_of : ℤ → ℕ
bits_of (pos n) = n % 2 ^ 32
bits_of (negsuc n) = 2 ^ 32 - 1 - n % 2 ^ 32

-- whether the number is one of a signed type of 32 bits
abbrev pub is_in_range : ℤ → Bool
is_in_range (pos n) = nat_lt n (2 ^ 31)
is_in_range (negsuc n) = nat_lt n (2 ^ 31)

-- what a conversion gives (3.2.1.2)
abbrev pub converted : ℕ → Int → ℕ
converted v to = bits_of (number_of to v)
