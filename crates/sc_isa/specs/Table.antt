-- Yardstick: to be compared with what it restates (docs/TRUST.md).
-- The words of the instructions (RISC-V unprivileged manual: RV32I and the extension M).
use Rattle.std.specs.Prelude.{◌≡◌, ℕ, ◌+◌, ◌*◌, ◌/◌, ◌%◌, ◌^◌, ◌<◌, ℤ, pos, negsuc, ◌≤ℤ◌}
use Rattle.std.specs.Int.{w32, cast_unsigned}
use Rattle.sc_isa.specs.declared.instruction.Instr.{Instr}
use Rattle.sc_isa.specs.declared.instruction.Instr.TheVariants.{Lui, Auipc, Jal, Jalr, Branch, Load, Store, Imm, Reg, Ecall, Fence}
use Rattle.sc_isa.specs.declared.instruction.BranchOp.{BranchOp}
use Rattle.sc_isa.specs.declared.instruction.BranchOp.TheVariants.{Beq, Bne, Blt, Bge, Bltu, Bgeu}
use Rattle.sc_isa.specs.declared.instruction.LoadOp.{LoadOp}
use Rattle.sc_isa.specs.declared.instruction.LoadOp.TheVariants.{Lb, Lh, Lw, Lbu, Lhu}
use Rattle.sc_isa.specs.declared.instruction.StoreOp.{StoreOp}
use Rattle.sc_isa.specs.declared.instruction.StoreOp.TheVariants.{Sb, Sh, Sw}
use Rattle.sc_isa.specs.declared.instruction.ImmOp.{ImmOp}
use Rattle.sc_isa.specs.declared.instruction.ImmOp.TheVariants.{Addi, Slli, Slti, Sltiu, Xori, Srli, Srai, Ori, Andi}
use Rattle.sc_isa.specs.declared.instruction.RegOp.{RegOp}
use Rattle.sc_isa.specs.declared.instruction.RegOp.TheVariants.{Add, Sub, Sll, Slt, Sltu, Xor, Srl, Sra, Or, And, Mul, Mulh, Mulhsu, Mulhu, Div, Divu, Rem, Remu}

-- the formats, with the fields from the lowest bit up: opcode at 0, rd at 7, funct3 at 12, rs1 at 15, rs2 at 20, funct7 at 25
abbrev pub r_word : ℕ → ℕ → ℕ → ℕ → ℕ → ℕ → ℕ
r_word opcode rd funct3 rs1 rs2 funct7 =
    opcode + rd * 2 ^ 7 + funct3 * 2 ^ 12 + rs1 * 2 ^ 15 + rs2 * 2 ^ 20 + funct7 * 2 ^ 25

-- the same with 12 bits of an immediate in the place of rs2 and funct7
abbrev pub i_word : ℕ → ℕ → ℕ → ℕ → ℕ → ℕ
i_word opcode rd funct3 rs1 imm = opcode + rd * 2 ^ 7 + funct3 * 2 ^ 12 + rs1 * 2 ^ 15 + imm * 2 ^ 20

-- the low 5 bits of an immediate in the place of rd, and the 7 above in that of funct7
abbrev pub s_word : ℕ → ℕ → ℕ → ℕ → ℕ → ℕ
s_word opcode funct3 rs1 rs2 imm = r_word opcode (imm % 2 ^ 5) funct3 rs1 rs2 (imm / 2 ^ 5)

-- the bits of a number from one on, so many of them
abbrev pub field : ℕ → ℕ → ℕ → ℕ
field n low size = n / 2 ^ low % 2 ^ size

-- an even offset of 13 bits: 4 to 1 and 11 in the place of rd, 12 and 10 to 5 in that of funct7
abbrev pub b_word : ℕ → ℕ → ℕ → ℕ → ℕ → ℕ
b_word opcode funct3 rs1 rs2 offset =
    r_word opcode (field offset 1 4 * 2 + field offset 11 1) funct3 rs1 rs2 (field offset 12 1 * 2 ^ 6 + field offset 5 6)

-- 20 bits of an immediate from bit 12 on
abbrev pub u_word : ℕ → ℕ → ℕ → ℕ
u_word opcode rd upper = opcode + rd * 2 ^ 7 + upper * 2 ^ 12

-- an even offset of 21 bits: from bit 12 on its bits 19 to 12, 11, 10 to 1 and 20
abbrev pub j_word : ℕ → ℕ → ℕ → ℕ
j_word opcode rd offset =
    u_word opcode rd (field offset 12 8 + field offset 11 1 * 2 ^ 8 + field offset 1 10 * 2 ^ 9 + field offset 20 1 * 2 ^ 19)

abbrev pub branch_code : BranchOp → ℕ
branch_code Beq = 0
branch_code Bne = 1
branch_code Blt = 4
branch_code Bge = 5
branch_code Bltu = 6
branch_code Bgeu = 7

abbrev pub load_code : LoadOp → ℕ
load_code Lb = 0
load_code Lh = 1
load_code Lw = 2
load_code Lbu = 4
load_code Lhu = 5

abbrev pub store_code : StoreOp → ℕ
store_code Sb = 0
store_code Sh = 1
store_code Sw = 2

abbrev pub imm_code : ImmOp → ℕ
imm_code Addi = 0
imm_code Slli = 1
imm_code Slti = 2
imm_code Sltiu = 3
imm_code Xori = 4
imm_code Srli = 5
imm_code Srai = 5
imm_code Ori = 6
imm_code Andi = 7

-- what stands in the place of funct7 above the count of a shift
abbrev pub imm_upper : ImmOp → ℕ
imm_upper Srai = 0x20
imm_upper _ = 0

abbrev pub reg_code : RegOp → ℕ
reg_code Add = 0
reg_code Sub = 0
reg_code Sll = 1
reg_code Slt = 2
reg_code Sltu = 3
reg_code Xor = 4
reg_code Srl = 5
reg_code Sra = 5
reg_code Or = 6
reg_code And = 7
reg_code Mul = 0
reg_code Mulh = 1
reg_code Mulhsu = 2
reg_code Mulhu = 3
reg_code Div = 4
reg_code Divu = 5
reg_code Rem = 6
reg_code Remu = 7

abbrev pub reg_upper : RegOp → ℕ
reg_upper Sub = 0x20
reg_upper Sra = 0x20
reg_upper Mul = 1
reg_upper Mulh = 1
reg_upper Mulhsu = 1
reg_upper Mulhu = 1
reg_upper Div = 1
reg_upper Divu = 1
reg_upper Rem = 1
reg_upper Remu = 1
reg_upper _ = 0

-- the low bits of a number in two's complement
abbrev pub low_bits : ℕ → ℤ → ℕ
low_bits n z = cast_unsigned w32 z % 2 ^ n

abbrev pub word_of : Instr → ℕ
word_of (Lui rd upper) = u_word 0x37 rd upper
word_of (Auipc rd upper) = u_word 0x17 rd upper
word_of (Jal rd offset) = j_word 0x6f rd (low_bits 21 offset)
word_of (Jalr rd rs1 offset) = i_word 0x67 rd 0 rs1 (low_bits 12 offset)
word_of (Branch op rs1 rs2 offset) = b_word 0x63 (branch_code op) rs1 rs2 (low_bits 13 offset)
word_of (Load op rd rs1 offset) = i_word 0x03 rd (load_code op) rs1 (low_bits 12 offset)
word_of (Store op rs2 rs1 offset) = s_word 0x23 (store_code op) rs1 rs2 (low_bits 12 offset)
word_of (Imm op rd rs1 imm) = i_word 0x13 rd (imm_code op) rs1 (imm_upper op * 2 ^ 5 + low_bits 12 imm)
word_of (Reg op rd rs1 rs2) = r_word 0x33 rd (reg_code op) rs1 rs2 (reg_upper op)
word_of Ecall = 0x00000073
word_of Fence = 0x0ff0000f

-- a number from one to another
abbrev pub IsBetween : ℤ → ℤ → ℤ → Type 0
IsBetween low high z = (low ≤ℤ z) × (z ≤ℤ high)

-- an immediate of 12 bits
abbrev pub IsShort : ℤ → Type 0
IsShort z = IsBetween (negsuc 2047) (pos 2047) z

abbrev pub IsEven : ℤ → Type 0
IsEven z = cast_unsigned w32 z % 2 ≡ 0

-- the count of a shift, or an immediate of 12 bits
abbrev pub IsImmediate : ImmOp → ℤ → Type 0
IsImmediate Slli z = IsBetween (pos 0) (pos 31) z
IsImmediate Srli z = IsBetween (pos 0) (pos 31) z
IsImmediate Srai z = IsBetween (pos 0) (pos 31) z
IsImmediate _ z = IsShort z

-- an instruction whose numbers fit their fields
abbrev pub IsSound : Instr → Type 0
IsSound (Lui rd upper) = (rd < 32) × (upper < 2 ^ 20)
IsSound (Auipc rd upper) = (rd < 32) × (upper < 2 ^ 20)
IsSound (Jal rd offset) = (rd < 32) × IsBetween (negsuc 1048575) (pos 1048574) offset × IsEven offset
IsSound (Jalr rd rs1 offset) = (rd < 32) × (rs1 < 32) × IsShort offset
IsSound (Branch op rs1 rs2 offset) = (rs1 < 32) × (rs2 < 32) × IsBetween (negsuc 4095) (pos 4094) offset × IsEven offset
IsSound (Load op rd rs1 offset) = (rd < 32) × (rs1 < 32) × IsShort offset
IsSound (Store op rs2 rs1 offset) = (rs2 < 32) × (rs1 < 32) × IsShort offset
IsSound (Imm op rd rs1 imm) = (rd < 32) × (rs1 < 32) × IsImmediate op imm
IsSound (Reg op rd rs1 rs2) = (rd < 32) × (rs1 < 32) × (rs2 < 32)
IsSound Ecall = Unit {0}
IsSound Fence = Unit {0}
