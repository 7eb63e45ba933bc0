-- Machine: the program once more; a theorem ties it to a yardstick (docs/TRUST.md).
-- The table from the other side: what instruction a word is.
use Rattle.std.specs.Prelude.{ℕ, ◌+◌, ◌*◌, ◌-◌, ◌/◌, ◌%◌, ◌^◌, ◌==◌, nat_lt, if◌then◌else◌, ℤ, pos, negsuc, Option, Some, None}
use Rattle.std.specs.Option.{option_map}
use Rattle.sc_isa.specs.declared.instruction.Instr.{Instr}
use Rattle.sc_isa.specs.declared.instruction.Instr.TheVariants.{Lui, Auipc, Jal, Jalr, Branch, Load, Store, Imm, Reg, Ecall, Fence}
use Rattle.sc_isa.specs.declared.instruction.BranchOp.{BranchOp}
use Rattle.sc_isa.specs.declared.instruction.BranchOp.TheVariants.{Beq, Bne, Blt, Bge, Bltu, Bgeu}
use Rattle.sc_isa.specs.declared.instruction.LoadOp.{LoadOp}
use Rattle.sc_isa.specs.declared.instruction.LoadOp.TheVariants.{Lb, Lh, Lw, Lbu, Lhu}
use Rattle.sc_isa.specs.declared.instruction.StoreOp.{StoreOp}
use Rattle.sc_isa.specs.declared.instruction.StoreOp.TheVariants.{Sb, Sh, Sw}
use Rattle.sc_isa.specs.declared.instruction.ImmOp.{ImmOp}
use Rattle.sc_isa.specs.declared.instruction.ImmOp.TheVariants.{Addi, Slli, Slti, Sltiu, Xori, Srli, Srai, Ori, Andi}
use Rattle.sc_isa.specs.declared.instruction.RegOp.{RegOp}
use Rattle.sc_isa.specs.declared.instruction.RegOp.TheVariants.{Add, Sub, Sll, Slt, Sltu, Xor, Srl, Sra, Or, And, Mul, Mulh, Mulhsu, Mulhu, Div, Divu, Rem, Remu}
use Rattle.sc_isa.specs.Table.{field}

-- the fields of a word
abbrev pub rd_of : ℕ → ℕ
rd_of w = field w 7 5

abbrev pub funct3_of : ℕ → ℕ
funct3_of w = field w 12 3

abbrev pub rs1_of : ℕ → ℕ
rs1_of w = field w 15 5

abbrev pub rs2_of : ℕ → ℕ
rs2_of w = field w 20 5

abbrev pub funct7_of : ℕ → ℕ
funct7_of w = field w 25 7

-- the number in two's complement whose sign bit has the weight `half`
abbrev pub extend : ℕ → ℕ → ℤ
extend half bits = if nat_lt bits half then pos bits else negsuc (2 * half - 1 - bits)

-- the offset of a branch, from what stands in the places of rd and funct7
abbrev pub branch_bits : ℕ → ℕ → ℕ
branch_bits low high = low / 2 * 2 + high % 2 ^ 6 * 2 ^ 5 + low % 2 * 2 ^ 11 + high / 2 ^ 6 * 2 ^ 12

-- the offset of a jump, from the 20 bits above rd
abbrev pub jump_bits : ℕ → ℕ
jump_bits upper = upper % 2 ^ 8 * 2 ^ 12 + upper / 2 ^ 8 % 2 * 2 ^ 11 + upper / 2 ^ 9 % 2 ^ 10 * 2 + upper / 2 ^ 19 * 2 ^ 20

abbrev pub branch_op : ℕ → Option BranchOp
branch_op n =
    if n == 0 then Some Beq else if n == 1 then Some Bne else if n == 4 then Some Blt else
    if n == 5 then Some Bge else if n == 6 then Some Bltu else if n == 7 then Some Bgeu else None

abbrev pub load_op : ℕ → Option LoadOp
load_op n =
    if n == 0 then Some Lb else if n == 1 then Some Lh else if n == 2 then Some Lw else
    if n == 4 then Some Lbu else if n == 5 then Some Lhu else None

abbrev pub store_op : ℕ → Option StoreOp
store_op n = if n == 0 then Some Sb else if n == 1 then Some Sh else if n == 2 then Some Sw else None

-- the shifts by a constant, from funct7 and funct3
abbrev pub shift_op : ℕ → ℕ → Option ImmOp
shift_op funct7 n =
    if n == 1 then (if funct7 == 0 then Some Slli else None) else
    if funct7 == 0 then Some Srli else if funct7 == 0x20 then Some Srai else None

-- the operations with 12 bits of a constant
abbrev pub short_op : ℕ → Option ImmOp
short_op n =
    if n == 0 then Some Addi else if n == 2 then Some Slti else if n == 3 then Some Sltiu else
    if n == 4 then Some Xori else if n == 6 then Some Ori else if n == 7 then Some Andi else None

-- funct7 0, 0x20 and 1
abbrev pub base_op : ℕ → Option RegOp
base_op n =
    if n == 0 then Some Add else if n == 1 then Some Sll else if n == 2 then Some Slt else
    if n == 3 then Some Sltu else if n == 4 then Some Xor else if n == 5 then Some Srl else
    if n == 6 then Some Or else if n == 7 then Some And else None

abbrev pub other_op : ℕ → Option RegOp
other_op n = if n == 0 then Some Sub else if n == 5 then Some Sra else None

abbrev pub multiply_op : ℕ → Option RegOp
multiply_op n =
    if n == 0 then Some Mul else if n == 1 then Some Mulh else if n == 2 then Some Mulhsu else
    if n == 3 then Some Mulhu else if n == 4 then Some Div else if n == 5 then Some Divu else
    if n == 6 then Some Rem else if n == 7 then Some Remu else None

abbrev pub reg_op : ℕ → ℕ → Option RegOp
reg_op funct7 n =
    if funct7 == 0 then base_op n else if funct7 == 0x20 then other_op n else if funct7 == 1 then multiply_op n else None

abbrev pub read_jalr : ℕ → Option Instr
read_jalr w = if funct3_of w == 0 then Some (Jalr (rd_of w) (rs1_of w) (extend (2 ^ 11) (w / 2 ^ 20))) else None

abbrev pub read_branch : ℕ → Option Instr
read_branch w =
    option_map (λ op. Branch op (rs1_of w) (rs2_of w) (extend (2 ^ 12) (branch_bits (rd_of w) (funct7_of w)))) (branch_op (funct3_of w))

abbrev pub read_load : ℕ → Option Instr
read_load w = option_map (λ op. Load op (rd_of w) (rs1_of w) (extend (2 ^ 11) (w / 2 ^ 20))) (load_op (funct3_of w))

abbrev pub read_store : ℕ → Option Instr
read_store w =
    option_map (λ op. Store op (rs2_of w) (rs1_of w) (extend (2 ^ 11) (rd_of w + funct7_of w * 2 ^ 5))) (store_op (funct3_of w))

abbrev pub read_shift : ℕ → Option Instr
read_shift w = option_map (λ op. Imm op (rd_of w) (rs1_of w) (pos (rs2_of w))) (shift_op (funct7_of w) (funct3_of w))

abbrev pub read_short : ℕ → Option Instr
read_short w = option_map (λ op. Imm op (rd_of w) (rs1_of w) (extend (2 ^ 11) (w / 2 ^ 20))) (short_op (funct3_of w))

abbrev pub read_imm : ℕ → Option Instr
read_imm w = if funct3_of w == 1 then read_shift w else if funct3_of w == 5 then read_shift w else read_short w

abbrev pub read_reg : ℕ → Option Instr
read_reg w = option_map (λ op. Reg op (rd_of w) (rs1_of w) (rs2_of w)) (reg_op (funct7_of w) (funct3_of w))

-- by the opcode
abbrev pub by_opcode : ℕ → ℕ → Option Instr
by_opcode opcode w =
    if opcode == 0x37 then Some (Lui (rd_of w) (w / 2 ^ 12)) else
    if opcode == 0x17 then Some (Auipc (rd_of w) (w / 2 ^ 12)) else
    if opcode == 0x6f then Some (Jal (rd_of w) (extend (2 ^ 20) (jump_bits (w / 2 ^ 12)))) else
    if opcode == 0x67 then read_jalr w else
    if opcode == 0x63 then read_branch w else
    if opcode == 0x03 then read_load w else
    if opcode == 0x23 then read_store w else
    if opcode == 0x13 then read_imm w else
    if opcode == 0x33 then read_reg w else None

-- the instruction of a word; `None` for a word that is not in the table
abbrev pub instr_of : ℕ → Option Instr
instr_of w = if w == 0x00000073 then Some Ecall else if w == 0x0ff0000f then Some Fence else by_opcode (w % 2 ^ 7) w
