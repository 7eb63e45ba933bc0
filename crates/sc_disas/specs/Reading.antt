-- Machine: the program once more; a theorem ties it to a yardstick (docs/TRUST.md).
-- What instruction a line is.
use Rattle.std.specs.Prelude.{ℕ, ◌+◌, ◌-◌, ◌%◌, ◌==◌, nat_lt, nat_le, Bool, not, ◌&&◌, ◌||◌, if◌then◌else◌, ℤ, pos, negsuc, Option, Some, None, option_map, option_and_then, List, [], ◌∷◌, length, take, drop, slice_index, codes}
use Rattle.std.specs.Int.{w32, cast_unsigned}
use Rattle.std.specs.List.{prefix_len, list_all}
use Rattle.std.specs.Str.{bytes_eq}
use Rattle.std.specs.Str.Parse.{digits_value}
use Rattle.std.specs.Borrow.{Bor}
use Rattle.sc_isa.specs.declared.instruction.Instr.{Instr}
use Rattle.sc_isa.specs.declared.instruction.Instr.TheVariants.{Lui, Auipc, Jal, Jalr, Branch, Load, Store, Imm, Reg, Ecall, Fence}
use Rattle.sc_isa.specs.declared.instruction.BranchOp.{BranchOp}
use Rattle.sc_isa.specs.declared.instruction.BranchOp.TheVariants.{Beq, Bne, Blt, Bge, Bltu, Bgeu}
use Rattle.sc_isa.specs.declared.instruction.LoadOp.{LoadOp}
use Rattle.sc_isa.specs.declared.instruction.LoadOp.TheVariants.{Lb, Lh, Lw, Lbu, Lhu}
use Rattle.sc_isa.specs.declared.instruction.StoreOp.{StoreOp}
use Rattle.sc_isa.specs.declared.instruction.StoreOp.TheVariants.{Sb, Sh, Sw}
use Rattle.sc_isa.specs.declared.instruction.ImmOp.{ImmOp}
use Rattle.sc_isa.specs.declared.instruction.ImmOp.TheVariants.{Addi, Slli, Slti, Sltiu, Xori, Srli, Srai, Ori, Andi}
use Rattle.sc_isa.specs.declared.instruction.RegOp.{RegOp}
use Rattle.sc_isa.specs.declared.instruction.RegOp.TheVariants.{Add, Sub, Sll, Slt, Sltu, Xor, Srl, Sra, Or, And, Mul, Mulh, Mulhsu, Mulhu, Div, Divu, Rem, Remu}

abbrev pub branch_named : List ℕ → Option BranchOp
branch_named word =
    if bytes_eq word (codes "beq") then Some Beq else (
    if bytes_eq word (codes "bne") then Some Bne else (
    if bytes_eq word (codes "blt") then Some Blt else (
    if bytes_eq word (codes "bge") then Some Bge else (
    if bytes_eq word (codes "bltu") then Some Bltu else (
    if bytes_eq word (codes "bgeu") then Some Bgeu else (None))))))

abbrev pub load_named : List ℕ → Option LoadOp
load_named word =
    if bytes_eq word (codes "lb") then Some Lb else (
    if bytes_eq word (codes "lh") then Some Lh else (
    if bytes_eq word (codes "lw") then Some Lw else (
    if bytes_eq word (codes "lbu") then Some Lbu else (
    if bytes_eq word (codes "lhu") then Some Lhu else (None)))))

abbrev pub store_named : List ℕ → Option StoreOp
store_named word =
    if bytes_eq word (codes "sb") then Some Sb else (
    if bytes_eq word (codes "sh") then Some Sh else (
    if bytes_eq word (codes "sw") then Some Sw else (None)))

abbrev pub imm_named : List ℕ → Option ImmOp
imm_named word =
    if bytes_eq word (codes "addi") then Some Addi else (
    if bytes_eq word (codes "slli") then Some Slli else (
    if bytes_eq word (codes "slti") then Some Slti else (
    if bytes_eq word (codes "sltiu") then Some Sltiu else (
    if bytes_eq word (codes "xori") then Some Xori else (
    if bytes_eq word (codes "srli") then Some Srli else (
    if bytes_eq word (codes "srai") then Some Srai else (
    if bytes_eq word (codes "ori") then Some Ori else (
    if bytes_eq word (codes "andi") then Some Andi else (None)))))))))

abbrev pub reg_named : List ℕ → Option RegOp
reg_named word =
    if bytes_eq word (codes "add") then Some Add else (
    if bytes_eq word (codes "sub") then Some Sub else (
    if bytes_eq word (codes "sll") then Some Sll else (
    if bytes_eq word (codes "slt") then Some Slt else (
    if bytes_eq word (codes "sltu") then Some Sltu else (
    if bytes_eq word (codes "xor") then Some Xor else (
    if bytes_eq word (codes "srl") then Some Srl else (
    if bytes_eq word (codes "sra") then Some Sra else (
    if bytes_eq word (codes "or") then Some Or else (
    if bytes_eq word (codes "and") then Some And else (
    if bytes_eq word (codes "mul") then Some Mul else (
    if bytes_eq word (codes "mulh") then Some Mulh else (
    if bytes_eq word (codes "mulhsu") then Some Mulhsu else (
    if bytes_eq word (codes "mulhu") then Some Mulhu else (
    if bytes_eq word (codes "div") then Some Div else (
    if bytes_eq word (codes "divu") then Some Divu else (
    if bytes_eq word (codes "rem") then Some Rem else (
    if bytes_eq word (codes "remu") then Some Remu else (None))))))))))))))))))

-- what stands before the first such byte, and what stands behind it
abbrev pub cut_len : ℕ → List ℕ → ℕ
cut_len byte text = prefix_len (λ b. not (b == byte)) text

abbrev pub cut : ℕ → List ℕ → Option (List ℕ × List ℕ)
cut byte text =
    if nat_lt (cut_len byte text) (length text)
    then Some (take (cut_len byte text) text, drop (cut_len byte text + 1) text)
    else None

abbrev pub is_digit : ℕ → Bool
is_digit c = nat_le 48 c && nat_le c 57

-- the first of several digits is no 0
abbrev pub begins_well : List ℕ → Bool
begins_well digits = length digits == 1 || not (slice_index digits 0 == 48)

-- one to seven digits, as a number is written
abbrev pub is_numeral : List ℕ → Bool
is_numeral digits = nat_le 1 (length digits) && (nat_le (length digits) 7 && (list_all is_digit digits && begins_well digits))

abbrev pub number_of : List ℕ → Option ℕ
number_of digits = if is_numeral digits then Some (digits_value 10 digits) else None

-- a number that is small enough
abbrev pub at_most : ℕ → ℕ → Option ℕ
at_most most n = if nat_le n most then Some n else None

abbrev pub upper_of : List ℕ → Option ℕ
upper_of text = option_and_then (at_most 1048575) (number_of text)

-- what stands behind this byte
abbrev pub behind : ℕ → List ℕ → Option (List ℕ)
behind byte [] = None
behind byte (first ∷ rest) = if first == byte then Some rest else None

abbrev pub small_of : List ℕ → Option ℕ
small_of digits = option_and_then (at_most 31) (number_of digits)

abbrev pub register_of : List ℕ → Option ℕ
register_of text = option_and_then small_of (behind 120 text)

-- a number above 0 and at most the lowest, below zero
abbrev pub below_zero : ℕ → ℕ → Option ℤ
below_zero lowest n = if n == 0 then None else if nat_le n lowest then Some (negsuc (n - 1)) else None

abbrev pub above_zero : ℕ → ℕ → Option ℤ
above_zero highest n = if nat_le n highest then Some (pos n) else None

-- behind a minus, or without one
abbrev pub signed_or : ℕ → ℕ → Option (List ℕ) → List ℕ → Option ℤ
signed_or lowest highest None text = option_and_then (above_zero highest) (number_of text)
signed_or lowest highest (Some digits) text = option_and_then (below_zero lowest) (number_of digits)

-- a number from minus the lowest to the highest
abbrev pub signed_of : ℕ → ℕ → List ℕ → Option ℤ
signed_of lowest highest text = signed_or lowest highest (behind 45 text) text

abbrev pub even : ℤ → Option ℤ
even z = if cast_unsigned w32 z % 2 == 0 then Some z else None

abbrev pub branch_offset : List ℕ → Option ℤ
branch_offset text = option_and_then even (signed_of 4096 4094 text)

abbrev pub jump_offset : List ℕ → Option ℤ
jump_offset text = option_and_then even (signed_of 1048576 1048574 text)

abbrev pub short_of : List ℕ → Option ℤ
short_of text = signed_of 2048 2047 text

abbrev pub immediate_of : ImmOp → List ℕ → Option ℤ
immediate_of Slli text = signed_of 0 31 text
immediate_of Srli text = signed_of 0 31 text
immediate_of Srai text = signed_of 0 31 text
immediate_of _ text = short_of text

-- the text before the first such byte and the text behind it, as the program has them
abbrev pub cut_view : Option (Bor (List ℕ) × Bor (List ℕ)) → Option (List ℕ × List ℕ)
cut_view r = option_map (λ p. (p.0.now, p.1.now)) r

-- a value and the text behind it
abbrev pub then_view : {A : Type 0} → Option (A × Bor (List ℕ)) → Option (A × List ℕ)
then_view r = option_map (λ p. (p.0, p.1.now)) r

abbrev pub behind_view : Option (Bor (List ℕ)) → Option (List ℕ)
behind_view r = option_map (λ p. p.now) r

-- a register, a comma and a space
abbrev pub register_then : List ℕ → Option (ℕ × List ℕ)
register_then text =
    option_and_then (λ p. option_and_then (λ rest. option_map (λ r. (r, rest)) (register_of p.0)) (behind 32 p.1)) (cut 44 text)

-- an offset, and a base in parentheses that end the text
abbrev pub base_of : List ℕ × List ℕ → Option ℕ
base_of (base, []) = register_of base
base_of (base, (c ∷ rest)) = None

abbrev pub address_of : List ℕ → Option (ℤ × ℕ)
address_of text =
    option_and_then (λ p. option_and_then (λ z. option_map (λ r. (z, r)) (option_and_then base_of (cut 41 p.1))) (short_of p.0)) (cut 40 text)

-- the operands of each instruction
abbrev pub read_lui : List ℕ → Option Instr
read_lui text = option_and_then (λ p. option_map (λ n. Lui p.0 n) (upper_of p.1)) (register_then text)

abbrev pub read_auipc : List ℕ → Option Instr
read_auipc text = option_and_then (λ p. option_map (λ n. Auipc p.0 n) (upper_of p.1)) (register_then text)

abbrev pub read_jal : List ℕ → Option Instr
read_jal text = option_and_then (λ p. option_map (λ z. Jal p.0 z) (jump_offset p.1)) (register_then text)

abbrev pub read_jalr : List ℕ → Option Instr
read_jalr text = option_and_then (λ p. option_map (λ a. Jalr p.0 a.1 a.0) (address_of p.1)) (register_then text)

abbrev pub read_load : LoadOp → List ℕ → Option Instr
read_load op text = option_and_then (λ p. option_map (λ a. Load op p.0 a.1 a.0) (address_of p.1)) (register_then text)

abbrev pub read_store : StoreOp → List ℕ → Option Instr
read_store op text = option_and_then (λ p. option_map (λ a. Store op p.0 a.1 a.0) (address_of p.1)) (register_then text)

abbrev pub read_branch : BranchOp → List ℕ → Option Instr
read_branch op text =
    option_and_then (λ p. option_and_then (λ q. option_map (λ z. Branch op p.0 q.0 z) (branch_offset q.1)) (register_then p.1)) (register_then text)

abbrev pub read_imm : ImmOp → List ℕ → Option Instr
read_imm op text =
    option_and_then (λ p. option_and_then (λ q. option_map (λ z. Imm op p.0 q.0 z) (immediate_of op q.1)) (register_then p.1)) (register_then text)

abbrev pub read_reg : RegOp → List ℕ → Option Instr
read_reg op text =
    option_and_then (λ p. option_and_then (λ q. option_map (λ r. Reg op p.0 q.0 r) (register_of q.1)) (register_then p.1)) (register_then text)

-- by the mnemonic
abbrev pub by_reg : List ℕ → List ℕ → Option Instr
by_reg word text = option_and_then (λ op. read_reg op text) (reg_named word)

abbrev pub imm_or : Option ImmOp → List ℕ → List ℕ → Option Instr
imm_or None word text = by_reg word text
imm_or (Some op) word text = read_imm op text

abbrev pub store_or : Option StoreOp → List ℕ → List ℕ → Option Instr
store_or None word text = imm_or (imm_named word) word text
store_or (Some op) word text = read_store op text

abbrev pub load_or : Option LoadOp → List ℕ → List ℕ → Option Instr
load_or None word text = store_or (store_named word) word text
load_or (Some op) word text = read_load op text

abbrev pub branch_or : Option BranchOp → List ℕ → List ℕ → Option Instr
branch_or None word text = load_or (load_named word) word text
branch_or (Some op) word text = read_branch op text

abbrev pub by_word : List ℕ → List ℕ → Option Instr
by_word word text =
    if bytes_eq word (codes "lui") then read_lui text else (
    if bytes_eq word (codes "auipc") then read_auipc text else (
    if bytes_eq word (codes "jal") then read_jal text else (
    if bytes_eq word (codes "jalr") then read_jalr text else branch_or (branch_named word) word text)))

-- a line of one word
abbrev pub alone_of : List ℕ → Option Instr
alone_of word = if bytes_eq word (codes "ecall") then Some Ecall else if bytes_eq word (codes "fence") then Some Fence else None

abbrev pub spaced_or : Option (List ℕ × List ℕ) → List ℕ → Option Instr
spaced_or None line = alone_of line
spaced_or (Some p) line = by_word p.0 p.1

-- the instruction of a line
abbrev pub instr_of_line : List ℕ → Option Instr
instr_of_line line = spaced_or (cut 32 line) line
