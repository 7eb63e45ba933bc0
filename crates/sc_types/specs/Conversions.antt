-- Yardstick: to be compared with what it restates (docs/TRUST.md).
-- The types of converted values (ANSI 3.2.1.1, 3.2.1.5).
use Rattle.std.specs.Prelude.{Bool, true, false, ◌||◌, ◌&&◌, if◌then◌else◌}
use Rattle.sc_base.specs.declared.integer.Int.{Int}
use Rattle.sc_base.specs.declared.integer.Int.TheVariants as int

-- `int` represents each value of the types below it
abbrev pub promote : Int → Int
promote int.Char = int.Int
promote int.SChar = int.Int
promote int.UChar = int.Int
promote int.Short = int.Int
promote int.UShort = int.Int
promote int.Int = int.Int
promote int.UInt = int.UInt
promote int.Long = int.Long
promote int.ULong = int.ULong

abbrev pub is_ulong : Int → Bool
is_ulong int.ULong = true
is_ulong _ = false

abbrev pub is_long : Int → Bool
is_long int.Long = true
is_long _ = false

abbrev pub is_uint : Int → Bool
is_uint int.UInt = true
is_uint _ = false

abbrev pub either : (Int → Bool) → Int → Int → Bool
either p a b = p a || p b

-- the first of the standard's rules that applies to two promoted types; `long` has as many bits as `unsigned int`
abbrev pub common : Int → Int → Int
common a b =
    if either is_ulong a b then int.ULong
    else if either is_long a b && either is_uint a b then int.ULong
    else if either is_long a b then int.Long
    else if either is_uint a b then int.UInt
    else int.Int

abbrev pub usual : Int → Int → Int
usual a b = common (promote a) (promote b)
