-- Numbers in registers as numbers of an integer type: loads, and the shifts and masks of a conversion.
use Rattle.std.proofs.Common.{◌≡◌, ℕ, ◌%◌, ◌<◌, true, false, refl, sym, ap, arith}
use Rattle.std.specs.Prelude.{ℤ, pos, negsuc, bit_and}
use Rattle.std.proofs.lemmas.Grind.{and_high_numeral, and_numeral}
use Rattle.std.proofs.lemmas.Int.{ints}
use Rattle.std.proofs.lemmas.Bool.Decides.{nat_tests}
use Rattle.sc_base.specs.declared.integer.Int.{Int}
use Rattle.sc_base.specs.declared.integer.Int.TheVariants as int
use Rattle.sc_ops.specs.Numbers.{converted, number_of, number_of_low, bits_of as bits_in}
use Rattle.sc_emu.specs.Operations.{plain, loaded, shifted_left, shifted_right, shifted_signed}
use Rattle.sc_isa.specs.declared.instruction.LoadOp.{LoadOp}
use Rattle.sc_isa.specs.declared.instruction.LoadOp.TheVariants.{Lb, Lh, Lw, Lbu, Lhu}
use Rattle.sc_types.specs.declared.ctype.CType.{CType}
use Rattle.sc_types.specs.declared.ctype.CType.TheOpen.{CType-F}
use Rattle.sc_types.specs.declared.ctype.Signature.{Signature}
use Rattle.sc_meaning.specs.Values.{layer_size}
use Rattle.sc_compiled_frames.specs.Accesses.{Reads}
use Rattle.sc_compiled_frames.specs.Conversions.{narrowing, by_constants}

-- a number's bits are 32
bits_wide : (z : ℤ) → bits_in z < 4294967296
bits_wide (pos n) = omega arith
bits_wide (negsuc n) = omega arith

pub converted_wide : (i : Int) (n : ℕ) → converted n i < 4294967296
converted_wide i n = bits_wide (number_of i n)

pub byte : (n : ℕ) → n < 256 → n % 256 % 4294967296 ≡ n
byte n lt = omega (arith, lt)

pub half : (n : ℕ) → n < 65536 → n % 65536 % 4294967296 ≡ n
half n lt = omega (arith, lt)

pub signed_byte : (n : ℕ) → bits_in (number_of_low 8 true n) ≡ (loaded Lb (plain n)).bits
signed_byte n = grind (arith, ints, nat_tests)

pub signed_half : (n : ℕ) → bits_in (number_of_low 16 true n) ≡ (loaded Lh (plain n)).bits
signed_half n = grind (arith, ints, nat_tests)

-- a number of 32 bits is one of a type of 32 bits as it stands
pub signed_word : (n : ℕ) → n < 4294967296 → bits_in (number_of_low 32 true n) ≡ n
signed_word n lt = grind (arith, ints, nat_tests, lt)

pub unsigned_word : (n : ℕ) → n < 4294967296 → bits_in (number_of_low 32 false n) ≡ n
unsigned_word n lt = omega (arith, lt)

-- the loads that read numbers of each type, and pointers
pub never : 0 < 0 → ⊥
never e = omega (arith, e)

pub load_reads : (l : CType-F CType Signature) → 0 < layer_size l → (op : LoadOp) × Reads op l
load_reads (CType-F.Void c) e = absurd (never e)
load_reads (CType-F.Int int.Char c) e = (Lbu, record { size = refl; number = λ n lt q. ap plain (sym (byte n lt)); word = λ x q. absurd (cc (q)) })
load_reads (CType-F.Int int.SChar c) e = (Lb, record { size = refl; number = λ n lt q. ap plain (sym (signed_byte n)); word = λ x q. absurd (cc (q)) })
load_reads (CType-F.Int int.UChar c) e = (Lbu, record { size = refl; number = λ n lt q. ap plain (sym (byte n lt)); word = λ x q. absurd (cc (q)) })
load_reads (CType-F.Int int.Short c) e = (Lh, record { size = refl; number = λ n lt q. ap plain (sym (signed_half n)); word = λ x q. absurd (cc (q)) })
load_reads (CType-F.Int int.UShort c) e = (Lhu, record { size = refl; number = λ n lt q. ap plain (sym (half n lt)); word = λ x q. absurd (cc (q)) })
load_reads (CType-F.Int int.Int c) e = (Lw, record { size = refl; number = λ n lt q. ap plain (sym (signed_word n lt)); word = λ x q. refl })
load_reads (CType-F.Int int.UInt c) e = (Lw, record { size = refl; number = λ n lt q. ap plain (sym (unsigned_word n lt)); word = λ x q. refl })
load_reads (CType-F.Int int.Long c) e = (Lw, record { size = refl; number = λ n lt q. ap plain (sym (signed_word n lt)); word = λ x q. refl })
load_reads (CType-F.Int int.ULong c) e = (Lw, record { size = refl; number = λ n lt q. ap plain (sym (unsigned_word n lt)); word = λ x q. refl })
load_reads (CType-F.Pointer p c) e = (Lw, record { size = refl; number = λ n lt q. absurd (cc (q)); word = λ x q. refl })
load_reads (CType-F.Array t n) e = absurd (never e)
load_reads (CType-F.Struct s c) e = absurd (never e)
load_reads (CType-F.Function s) e = absurd (never e)

-- ---- conversions in registers
mask : (n : ℕ) → n < 4294967296 → bit_and n 255 ≡ n % 256 % 4294967296
mask n lt = grind (arith, nat_tests, and_high_numeral, and_numeral, lt)

high_byte : (n : ℕ) → n < 4294967296 → shifted_signed (shifted_left n 24) 24 ≡ bits_in (number_of_low 8 true n)
high_byte n lt = grind (arith, ints, nat_tests, lt)

high_half : (n : ℕ) → n < 4294967296 → shifted_signed (shifted_left n 16) 16 ≡ bits_in (number_of_low 16 true n)
high_half n lt = grind (arith, ints, nat_tests, lt)

low_half : (n : ℕ) → n < 4294967296 → shifted_right (shifted_left n 16) 16 ≡ n % 65536 % 4294967296
low_half n lt = omega (arith, lt)

-- the words of a conversion make a number of the type
pub narrowed_is : (i : Int) (n : ℕ) → n < 4294967296 → by_constants (narrowing i) (plain n) ≡ plain (converted n i)
narrowed_is int.Char n lt = ap plain (mask n lt)
narrowed_is int.SChar n lt = ap plain (high_byte n lt)
narrowed_is int.UChar n lt = ap plain (mask n lt)
narrowed_is int.Short n lt = ap plain (high_half n lt)
narrowed_is int.UShort n lt = ap plain (low_half n lt)
narrowed_is int.Int n lt = ap plain (sym (signed_word n lt))
narrowed_is int.UInt n lt = ap plain (sym (unsigned_word n lt))
narrowed_is int.Long n lt = ap plain (sym (signed_word n lt))
narrowed_is int.ULong n lt = ap plain (sym (unsigned_word n lt))

-- a number of the type is one as it stands
twice_byte : (n : ℕ) → n % 256 % 4294967296 % 256 % 4294967296 ≡ n % 256 % 4294967296
twice_byte n = omega arith

twice_half : (n : ℕ) → n % 65536 % 4294967296 % 65536 % 4294967296 ≡ n % 65536 % 4294967296
twice_half n = omega arith

twice_signed_byte : (n : ℕ) → bits_in (number_of_low 8 true (bits_in (number_of_low 8 true n))) ≡ bits_in (number_of_low 8 true n)
twice_signed_byte n = grind (arith, ints, nat_tests)

twice_signed_half : (n : ℕ) → bits_in (number_of_low 16 true (bits_in (number_of_low 16 true n))) ≡ bits_in (number_of_low 16 true n)
twice_signed_half n = grind (arith, ints, nat_tests)

pub converted_twice : (i : Int) (n : ℕ) → converted (converted n i) i ≡ converted n i
converted_twice int.Char n = twice_byte n
converted_twice int.SChar n = twice_signed_byte n
converted_twice int.UChar n = twice_byte n
converted_twice int.Short n = twice_signed_half n
converted_twice int.UShort n = twice_half n
converted_twice int.Int n = signed_word (converted n int.Int) (converted_wide int.Int n)
converted_twice int.UInt n = unsigned_word (converted n int.UInt) (converted_wide int.UInt n)
converted_twice int.Long n = signed_word (converted n int.Long) (converted_wide int.Long n)
converted_twice int.ULong n = unsigned_word (converted n int.ULong) (converted_wide int.ULong n)
