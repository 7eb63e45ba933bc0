-- Yardstick: to be compared with what it restates (docs/TRUST.md).
-- What the operations on registers give, and which tags they keep (RISC-V unprivileged manual, RV32I and M).
-- A tag says what a number points to: 0 for nothing, else the number of an object or the mark of functions.
use Rattle.std.specs.Prelude.{ℕ, ◌+◌, ◌-◌, ◌*◌, ◌/◌, ◌%◌, ◌^◌, ◌==◌, Bool, true, false, not, if◌then◌else◌, nat_lt, nat_le, bit_and, bit_or, bit_xor, ℤ, pos, ◌*ℤ◌, int_div, int_rem, int_lt}
use Rattle.std.specs.Int.{w8, w16, w32, w64, cast_signed, cast_unsigned, int_shr}
use Rattle.sc_base.specs.declared.memory.Word.{Word}
use Rattle.sc_isa.specs.declared.instruction.BranchOp.{BranchOp}
use Rattle.sc_isa.specs.declared.instruction.BranchOp.TheVariants.{Beq, Bne, Blt, Bge, Bltu, Bgeu}
use Rattle.sc_isa.specs.declared.instruction.LoadOp.{LoadOp}
use Rattle.sc_isa.specs.declared.instruction.LoadOp.TheVariants.{Lb, Lh, Lw, Lbu, Lhu}
use Rattle.sc_isa.specs.declared.instruction.StoreOp.{StoreOp}
use Rattle.sc_isa.specs.declared.instruction.StoreOp.TheVariants.{Sb, Sh, Sw}
use Rattle.sc_isa.specs.declared.instruction.ImmOp.{ImmOp}
use Rattle.sc_isa.specs.declared.instruction.ImmOp.TheVariants.{Addi, Slli, Slti, Sltiu, Xori, Srli, Srai, Ori, Andi}
use Rattle.sc_isa.specs.declared.instruction.RegOp.{RegOp}
use Rattle.sc_isa.specs.declared.instruction.RegOp.TheVariants.{Add, Sub, Sll, Slt, Sltu, Xor, Srl, Sra, Or, And, Mul, Mulh, Mulhsu, Mulhu, Div, Divu, Rem, Remu}

-- 32 bits as a number in two's complement, and the bits of such a number
abbrev pub signed : ℕ → ℤ
signed n = cast_signed w32 n

abbrev pub bits_of : ℤ → ℕ
bits_of z = cast_unsigned w32 z

-- a number without a tag
abbrev pub plain : ℕ → Word
plain n = record { bits = n; tag = 0 }

-- 1 where a test holds, else 0
abbrev pub truth : Bool → ℕ
truth true = 1
truth false = 0

abbrev pub sum : ℕ → ℕ → ℕ
sum a b = (a + b) % 2 ^ 32

abbrev pub difference : ℕ → ℕ → ℕ
difference a b = (a + (2 ^ 32 - b)) % 2 ^ 32

-- shifts by the low 5 bits of the second operand; the last one copies the sign
abbrev pub shifted_left : ℕ → ℕ → ℕ
shifted_left a b = a * 2 ^ (b % 32) % 2 ^ 32

abbrev pub shifted_right : ℕ → ℕ → ℕ
shifted_right a b = a / 2 ^ (b % 32)

abbrev pub shifted_signed : ℕ → ℕ → ℕ
shifted_signed a b = bits_of (int_shr (signed a) (b % 32))

-- the upper half of the 64 bits of a product
abbrev pub upper_half : ℤ → ℕ
upper_half z = cast_unsigned w64 z / 2 ^ 32

-- a division by zero gives all ones and leaves the dividend; -2^31 by -1 gives -2^31 and leaves 0
abbrev pub quotient : ℕ → ℕ → ℕ
quotient a b = if b == 0 then 2 ^ 32 - 1 else bits_of (int_div (signed a) (signed b))

abbrev pub remainder : ℕ → ℕ → ℕ
remainder a b = if b == 0 then a else bits_of (int_rem (signed a) (signed b))

abbrev pub unsigned_quotient : ℕ → ℕ → ℕ
unsigned_quotient a b = if b == 0 then 2 ^ 32 - 1 else a / b

abbrev pub unsigned_remainder : ℕ → ℕ → ℕ
unsigned_remainder a b = if b == 0 then a else a % b

-- the tag of a sum: that of the one operand which has one
abbrev pub tag_of_sum : ℕ → ℕ → ℕ
tag_of_sum a b = if a == 0 then b else if b == 0 then a else 0

-- the tag of a difference: the first operand's, where the second has none
abbrev pub tag_of_difference : ℕ → ℕ → ℕ
tag_of_difference a b = if b == 0 then a else 0

-- an operation of a register and a constant; only a sum has a tag
abbrev pub with_constant : ImmOp → Word → ℕ → Word
with_constant Addi a b = record { bits = sum a.bits b; tag = a.tag }
with_constant Slli a b = plain (shifted_left a.bits b)
with_constant Slti a b = plain (truth (int_lt (signed a.bits) (signed b)))
with_constant Sltiu a b = plain (truth (nat_lt a.bits b))
with_constant Xori a b = plain (bit_xor a.bits b)
with_constant Srli a b = plain (shifted_right a.bits b)
with_constant Srai a b = plain (shifted_signed a.bits b)
with_constant Ori a b = plain (bit_or a.bits b)
with_constant Andi a b = plain (bit_and a.bits b)

-- an operation of two registers; only a sum and a difference have a tag
abbrev pub of_two : RegOp → Word → Word → Word
of_two Add a b = record { bits = sum a.bits b.bits; tag = tag_of_sum a.tag b.tag }
of_two Sub a b = record { bits = difference a.bits b.bits; tag = tag_of_difference a.tag b.tag }
of_two Sll a b = plain (shifted_left a.bits b.bits)
of_two Slt a b = plain (truth (int_lt (signed a.bits) (signed b.bits)))
of_two Sltu a b = plain (truth (nat_lt a.bits b.bits))
of_two Xor a b = plain (bit_xor a.bits b.bits)
of_two Srl a b = plain (shifted_right a.bits b.bits)
of_two Sra a b = plain (shifted_signed a.bits b.bits)
of_two Or a b = plain (bit_or a.bits b.bits)
of_two And a b = plain (bit_and a.bits b.bits)
of_two Mul a b = plain (a.bits * b.bits % 2 ^ 32)
of_two Mulh a b = plain (upper_half (signed a.bits *ℤ signed b.bits))
of_two Mulhsu a b = plain (upper_half (signed a.bits *ℤ pos b.bits))
of_two Mulhu a b = plain (a.bits * b.bits / 2 ^ 32)
of_two Div a b = plain (quotient a.bits b.bits)
of_two Divu a b = plain (unsigned_quotient a.bits b.bits)
of_two Rem a b = plain (remainder a.bits b.bits)
of_two Remu a b = plain (unsigned_remainder a.bits b.bits)

-- whether a branch is taken
abbrev pub is_taken : BranchOp → ℕ → ℕ → Bool
is_taken Beq a b = a == b
is_taken Bne a b = not (a == b)
is_taken Blt a b = int_lt (signed a) (signed b)
is_taken Bge a b = not (int_lt (signed a) (signed b))
is_taken Bltu a b = nat_lt a b
is_taken Bgeu a b = nat_le b a

-- the bytes of a load and of a store
abbrev pub load_size : LoadOp → ℕ
load_size Lb = 1
load_size Lh = 2
load_size Lw = 4
load_size Lbu = 1
load_size Lhu = 2

abbrev pub store_size : StoreOp → ℕ
store_size Sb = 1
store_size Sh = 2
store_size Sw = 4

-- what a load puts into its register: only a whole word keeps its tag
abbrev pub loaded : LoadOp → Word → Word
loaded Lb w = plain (bits_of (cast_signed w8 (w.bits % 2 ^ 8)))
loaded Lh w = plain (bits_of (cast_signed w16 (w.bits % 2 ^ 16)))
loaded Lw w = w
loaded Lbu w = plain w.bits
loaded Lhu w = plain w.bits
