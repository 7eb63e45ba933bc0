-- The bits of numbers.
use Rattle.std.proofs.Common.{◌≡◌, ℕ, true, arith}
use Rattle.std.proofs.lemmas.Bool.Decides.{nat_tests}
use Rattle.std.proofs.lemmas.Int.{ints}
use Rattle.sc_base.specs.declared.integer.Int.{Int}
use Rattle.sc_base.specs.declared.integer.Int.TheVariants as i
use Rattle.sc_core_needs.specs.Types.{is_promoted}
use Rattle.sc_ops.specs.Numbers.{converted}
use Rattle.sc_compiled_values.specs.Fits.{IsInRange}

pub twice : (n : ℕ) (k : Int) → converted (converted n k) k ≡ converted n k
twice n i.Char = grind (arith, ints, nat_tests)
twice n i.SChar = grind (arith, ints, nat_tests)
twice n i.UChar = grind (arith, ints, nat_tests)
twice n i.Short = grind (arith, ints, nat_tests)
twice n i.UShort = grind (arith, ints, nat_tests)
twice n i.Int = grind (arith, ints, nat_tests)
twice n i.UInt = grind (arith, ints, nat_tests)
twice n i.Long = grind (arith, ints, nat_tests)
twice n i.ULong = grind (arith, ints, nat_tests)

-- a number that was converted
pub in_range : (n : ℕ) (k : Int) → IsInRange k (converted n k)
in_range n i.Char = twice n i.Char
in_range n i.SChar = twice n i.SChar
in_range n i.UChar = twice n i.UChar
in_range n i.Short = twice n i.Short
in_range n i.UShort = twice n i.UShort
in_range n i.Int = tt
in_range n i.UInt = tt
in_range n i.Long = tt
in_range n i.ULong = tt

-- a constant of a type is one of its range
pub constant_range : (k : Int) (n : ℕ) → converted n k ≡ n → IsInRange k n
constant_range i.Char n e = e
constant_range i.SChar n e = e
constant_range i.UChar n e = e
constant_range i.Short n e = e
constant_range i.UShort n e = e
constant_range i.Int n e = tt
constant_range i.UInt n e = tt
constant_range i.Long n e = tt
constant_range i.ULong n e = tt

-- a number in a promoted type
pub wide : (k : Int) (n : ℕ) → is_promoted k ≡ true → IsInRange k n
wide i.Char n p = absurd (cc)
wide i.SChar n p = absurd (cc)
wide i.UChar n p = absurd (cc)
wide i.Short n p = absurd (cc)
wide i.UShort n p = absurd (cc)
wide i.Int n p = tt
wide i.UInt n p = tt
wide i.Long n p = tt
wide i.ULong n p = tt
