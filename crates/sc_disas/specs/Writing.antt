-- Yardstick: to be compared with what it restates (docs/TRUST.md).
-- Instructions as lines of text: the mnemonics of the RISC-V unprivileged manual, decimal numbers, registers x0 to x31.
use Rattle.std.specs.Prelude.{ℕ, ℤ, List, ◌++◌, codes, decimal}
use Rattle.std.specs.Fmt.{signed_decimal}
use Rattle.sc_isa.specs.declared.instruction.Instr.{Instr}
use Rattle.sc_isa.specs.declared.instruction.Instr.TheVariants.{Lui, Auipc, Jal, Jalr, Branch, Load, Store, Imm, Reg, Ecall, Fence}
use Rattle.sc_isa.specs.declared.instruction.BranchOp.{BranchOp}
use Rattle.sc_isa.specs.declared.instruction.BranchOp.TheVariants.{Beq, Bne, Blt, Bge, Bltu, Bgeu}
use Rattle.sc_isa.specs.declared.instruction.LoadOp.{LoadOp}
use Rattle.sc_isa.specs.declared.instruction.LoadOp.TheVariants.{Lb, Lh, Lw, Lbu, Lhu}
use Rattle.sc_isa.specs.declared.instruction.StoreOp.{StoreOp}
use Rattle.sc_isa.specs.declared.instruction.StoreOp.TheVariants.{Sb, Sh, Sw}
use Rattle.sc_isa.specs.declared.instruction.ImmOp.{ImmOp}
use Rattle.sc_isa.specs.declared.instruction.ImmOp.TheVariants.{Addi, Slli, Slti, Sltiu, Xori, Srli, Srai, Ori, Andi}
use Rattle.sc_isa.specs.declared.instruction.RegOp.{RegOp}
use Rattle.sc_isa.specs.declared.instruction.RegOp.TheVariants.{Add, Sub, Sll, Slt, Sltu, Xor, Srl, Sra, Or, And, Mul, Mulh, Mulhsu, Mulhu, Div, Divu, Rem, Remu}

abbrev pub branch_name : BranchOp → List ℕ
branch_name Beq = codes "beq"
branch_name Bne = codes "bne"
branch_name Blt = codes "blt"
branch_name Bge = codes "bge"
branch_name Bltu = codes "bltu"
branch_name Bgeu = codes "bgeu"

abbrev pub load_name : LoadOp → List ℕ
load_name Lb = codes "lb"
load_name Lh = codes "lh"
load_name Lw = codes "lw"
load_name Lbu = codes "lbu"
load_name Lhu = codes "lhu"

abbrev pub store_name : StoreOp → List ℕ
store_name Sb = codes "sb"
store_name Sh = codes "sh"
store_name Sw = codes "sw"

abbrev pub imm_name : ImmOp → List ℕ
imm_name Addi = codes "addi"
imm_name Slli = codes "slli"
imm_name Slti = codes "slti"
imm_name Sltiu = codes "sltiu"
imm_name Xori = codes "xori"
imm_name Srli = codes "srli"
imm_name Srai = codes "srai"
imm_name Ori = codes "ori"
imm_name Andi = codes "andi"

abbrev pub reg_name : RegOp → List ℕ
reg_name Add = codes "add"
reg_name Sub = codes "sub"
reg_name Sll = codes "sll"
reg_name Slt = codes "slt"
reg_name Sltu = codes "sltu"
reg_name Xor = codes "xor"
reg_name Srl = codes "srl"
reg_name Sra = codes "sra"
reg_name Or = codes "or"
reg_name And = codes "and"
reg_name Mul = codes "mul"
reg_name Mulh = codes "mulh"
reg_name Mulhsu = codes "mulhsu"
reg_name Mulhu = codes "mulhu"
reg_name Div = codes "div"
reg_name Divu = codes "divu"
reg_name Rem = codes "rem"
reg_name Remu = codes "remu"

abbrev pub register : ℕ → List ℕ
register r = codes "x" ++ decimal r

-- an offset and the base in parentheses
abbrev pub address : ℤ → ℕ → List ℕ
address offset base = signed_decimal offset ++ (codes "(" ++ (register base ++ codes ")"))

-- two operands with a comma and a space between them
abbrev pub joined : List ℕ → List ℕ → List ℕ
joined first rest = first ++ (codes ", " ++ rest)

-- a mnemonic, a space and the operands
abbrev pub line : List ℕ → List ℕ → List ℕ
line name operands = name ++ (codes " " ++ operands)

-- the operands in the order in which the instruction has them; only a base stands behind its offset
abbrev pub text_of : Instr → List ℕ
text_of (Lui rd upper) = line (codes "lui") (joined (register rd) (decimal upper))
text_of (Auipc rd upper) = line (codes "auipc") (joined (register rd) (decimal upper))
text_of (Jal rd offset) = line (codes "jal") (joined (register rd) (signed_decimal offset))
text_of (Jalr rd rs1 offset) = line (codes "jalr") (joined (register rd) (address offset rs1))
text_of (Branch op rs1 rs2 offset) = line (branch_name op) (joined (register rs1) (joined (register rs2) (signed_decimal offset)))
text_of (Load op rd rs1 offset) = line (load_name op) (joined (register rd) (address offset rs1))
text_of (Store op rs2 rs1 offset) = line (store_name op) (joined (register rs2) (address offset rs1))
text_of (Imm op rd rs1 imm) = line (imm_name op) (joined (register rd) (joined (register rs1) (signed_decimal imm)))
text_of (Reg op rd rs1 rs2) = line (reg_name op) (joined (register rd) (joined (register rs1) (register rs2)))
text_of Ecall = codes "ecall"
text_of Fence = codes "fence"
