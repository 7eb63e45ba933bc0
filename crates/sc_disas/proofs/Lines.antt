-- Lines as they are written and read.
use Rattle.std.proofs.Common.{◌≡◌, ℕ, ◌^◌, ◌<◌, Bool, true, false, ℤ, List, Option, None, Some, option_map, option_and_then, IfSome, if◌then◌else◌, decimal, codes, refl, sym, ap, subst, ◌∙◌}
use Rattle.std.specs.Fmt.{signed_decimal}
use Rattle.std.specs.Str.{bytes_eq}
use Rattle.std.proofs.lemmas.Slice.Eq.{bytes_eq-Decides}
use Rattle.std.proofs.lemmas.Option.{none-some, same_Some, option_and_then_some}
use Rattle.sc_isa.specs.Table.{IsSound, word_of}
use Rattle.sc_isa.specs.declared.instruction.Instr.{Instr}
use Rattle.sc_isa.specs.declared.instruction.Instr.TheVariants.{Lui, Auipc, Jal, Jalr, Branch, Load, Store, Imm, Reg, Ecall, Fence}
use Rattle.sc_isa.specs.declared.instruction.BranchOp.{BranchOp}
use Rattle.sc_isa.specs.declared.instruction.BranchOp.TheVariants.{Beq, Bne, Blt, Bge, Bltu, Bgeu}
use Rattle.sc_isa.specs.declared.instruction.LoadOp.{LoadOp}
use Rattle.sc_isa.specs.declared.instruction.LoadOp.TheVariants.{Lb, Lh, Lw, Lbu, Lhu}
use Rattle.sc_isa.specs.declared.instruction.StoreOp.{StoreOp}
use Rattle.sc_isa.specs.declared.instruction.StoreOp.TheVariants.{Sb, Sh, Sw}
use Rattle.sc_isa.specs.declared.instruction.ImmOp.{ImmOp}
use Rattle.sc_isa.specs.declared.instruction.ImmOp.TheVariants.{Addi, Slli, Slti, Sltiu, Xori, Srli, Srai, Ori, Andi}
use Rattle.sc_isa.specs.declared.instruction.RegOp.{RegOp}
use Rattle.sc_isa.specs.declared.instruction.RegOp.TheVariants.{Add, Sub, Sll, Slt, Sltu, Xor, Srl, Sra, Or, And, Mul, Mulh, Mulhsu, Mulhu, Div, Divu, Rem, Remu}
use Rattle.sc_disas.specs.Writing.{register, address, joined, line, text_of, branch_name, load_name, store_name, imm_name, reg_name}
use Rattle.sc_disas.specs.Reading.{cut, register_of, upper_of, branch_offset, jump_offset, immediate_of, register_then, address_of, branch_named, load_named, store_named, imm_named, reg_named, read_lui, read_auipc, read_jal, read_jalr, read_load, read_store, read_branch, read_imm, read_reg, by_reg, imm_or, store_or, load_or, branch_or, by_word, alone_of, spaced_or, instr_of_line}
use Rattle.sc_disas.proofs.Texts.{map_some, Free, cut_complete, cut_sound, then_sound, then_complete, address_sound, address_complete, upper_sound, upper_complete, jump_sound, jump_complete, branch_sound, branch_complete, immediate_sound, immediate_complete, register_sound, register_complete}

-- ---- the operands, read back

pub lui_complete : (rd n : ℕ) → rd < 32 → n < 2 ^ 20 → read_lui (joined (register rd) (decimal n)) ≡ Some (Lui rd n)
lui_complete rd n r h =
    ap (λ o. option_and_then (λ p. option_map (λ m. Lui p.0 m) (upper_of p.1)) o) (then_complete rd (decimal n) r) ∙ ap (λ o. option_map (λ m. Lui rd m) o) (upper_complete n h)

pub auipc_complete : (rd n : ℕ) → rd < 32 → n < 2 ^ 20 → read_auipc (joined (register rd) (decimal n)) ≡ Some (Auipc rd n)
auipc_complete rd n r h =
    ap (λ o. option_and_then (λ p. option_map (λ m. Auipc p.0 m) (upper_of p.1)) o) (then_complete rd (decimal n) r) ∙ ap (λ o. option_map (λ m. Auipc rd m) o) (upper_complete n h)

pub jal_complete : (rd : ℕ) (z : ℤ) → IsSound (Jal rd z) → read_jal (joined (register rd) (signed_decimal z)) ≡ Some (Jal rd z)
jal_complete rd z s =
    ap (λ o. option_and_then (λ p. option_map (λ m. Jal p.0 m) (jump_offset p.1)) o) (then_complete rd (signed_decimal z) s.0) ∙ ap (λ o. option_map (λ m. Jal rd m) o) (jump_complete z s.1 s.2)

pub jalr_complete : (rd base : ℕ) (z : ℤ) → IsSound (Jalr rd base z) → read_jalr (joined (register rd) (address z base)) ≡ Some (Jalr rd base z)
jalr_complete rd base z s =
    ap (λ o. option_and_then (λ p. option_map (λ a. Jalr p.0 a.1 a.0) (address_of p.1)) o) (then_complete rd (address z base) s.0) ∙ ap (λ o. option_map (λ a. Jalr rd a.1 a.0) o) (address_complete z base s.2 s.1)

pub load_complete : (op : LoadOp) (rd base : ℕ) (z : ℤ) → IsSound (Load op rd base z) → read_load op (joined (register rd) (address z base)) ≡ Some (Load op rd base z)
load_complete op rd base z s =
    ap (λ o. option_and_then (λ p. option_map (λ a. Load op p.0 a.1 a.0) (address_of p.1)) o) (then_complete rd (address z base) s.0) ∙ ap (λ o. option_map (λ a. Load op rd a.1 a.0) o) (address_complete z base s.2 s.1)

pub store_complete : (op : StoreOp) (rs2 base : ℕ) (z : ℤ) → IsSound (Store op rs2 base z) → read_store op (joined (register rs2) (address z base)) ≡ Some (Store op rs2 base z)
store_complete op rs2 base z s =
    ap (λ o. option_and_then (λ p. option_map (λ a. Store op p.0 a.1 a.0) (address_of p.1)) o) (then_complete rs2 (address z base) s.0) ∙ ap (λ o. option_map (λ a. Store op rs2 a.1 a.0) o) (address_complete z base s.2 s.1)

pub branch_line : (op : BranchOp) (a b : ℕ) (z : ℤ) → IsSound (Branch op a b z) → read_branch op (joined (register a) (joined (register b) (signed_decimal z))) ≡ Some (Branch op a b z)
branch_line op a b z s =
    ap (λ o. option_and_then (λ p. option_and_then (λ q. option_map (λ y. Branch op p.0 q.0 y) (branch_offset q.1)) (register_then p.1)) o) (then_complete a (joined (register b) (signed_decimal z)) s.0)
    ∙ ap (λ o. option_and_then (λ q. option_map (λ y. Branch op a q.0 y) (branch_offset q.1)) o) (then_complete b (signed_decimal z) s.1)
    ∙ ap (λ o. option_map (λ y. Branch op a b y) o) (branch_complete z s.2 s.3)

pub imm_line : (op : ImmOp) (a b : ℕ) (z : ℤ) → IsSound (Imm op a b z) → read_imm op (joined (register a) (joined (register b) (signed_decimal z))) ≡ Some (Imm op a b z)
imm_line op a b z s =
    ap (λ o. option_and_then (λ p. option_and_then (λ q. option_map (λ y. Imm op p.0 q.0 y) (immediate_of op q.1)) (register_then p.1)) o) (then_complete a (joined (register b) (signed_decimal z)) s.0)
    ∙ ap (λ o. option_and_then (λ q. option_map (λ y. Imm op a q.0 y) (immediate_of op q.1)) o) (then_complete b (signed_decimal z) s.1)
    ∙ ap (λ o. option_map (λ y. Imm op a b y) o) (immediate_complete op z s.2)

pub reg_line : (op : RegOp) (a b d : ℕ) → IsSound (Reg op a b d) → read_reg op (joined (register a) (joined (register b) (register d))) ≡ Some (Reg op a b d)
reg_line op a b d s =
    ap (λ o. option_and_then (λ p. option_and_then (λ q. option_map (λ y. Reg op p.0 q.0 y) (register_of q.1)) (register_then p.1)) o) (then_complete a (joined (register b) (register d)) s.0)
    ∙ ap (λ o. option_and_then (λ q. option_map (λ y. Reg op a q.0 y) (register_of q.1)) o) (then_complete b (register d) s.1)
    ∙ ap (λ o. option_map (λ y. Reg op a b y) o) (register_complete d s.2)

-- ---- the mnemonics, read back

-- a line whose word has no space
spaced : (name operands : List ℕ) (i : Instr) → Free 32 name → by_word name operands ≡ Some i → instr_of_line (line name operands) ≡ Some i
spaced name operands i free e = ap (λ o. spaced_or o (line name operands)) (cut_complete 32 name operands free) ∙ e

-- what the word of a mnemonic is read as, whatever stands behind it

branch_word : (op : BranchOp) (operands : List ℕ) → (Free 32 (branch_name op)) × (by_word (branch_name op) operands ≡ read_branch op operands)
branch_word Beq operands = ((refl, (refl, (refl, tt))), refl)
branch_word Bne operands = ((refl, (refl, (refl, tt))), refl)
branch_word Blt operands = ((refl, (refl, (refl, tt))), refl)
branch_word Bge operands = ((refl, (refl, (refl, tt))), refl)
branch_word Bltu operands = ((refl, (refl, (refl, (refl, tt)))), refl)
branch_word Bgeu operands = ((refl, (refl, (refl, (refl, tt)))), refl)

load_word : (op : LoadOp) (operands : List ℕ) → (Free 32 (load_name op)) × (by_word (load_name op) operands ≡ read_load op operands)
load_word Lb operands = ((refl, (refl, tt)), refl)
load_word Lh operands = ((refl, (refl, tt)), refl)
load_word Lw operands = ((refl, (refl, tt)), refl)
load_word Lbu operands = ((refl, (refl, (refl, tt))), refl)
load_word Lhu operands = ((refl, (refl, (refl, tt))), refl)

store_word : (op : StoreOp) (operands : List ℕ) → (Free 32 (store_name op)) × (by_word (store_name op) operands ≡ read_store op operands)
store_word Sb operands = ((refl, (refl, tt)), refl)
store_word Sh operands = ((refl, (refl, tt)), refl)
store_word Sw operands = ((refl, (refl, tt)), refl)

imm_word : (op : ImmOp) (operands : List ℕ) → (Free 32 (imm_name op)) × (by_word (imm_name op) operands ≡ read_imm op operands)
imm_word Addi operands = ((refl, (refl, (refl, (refl, tt)))), refl)
imm_word Slli operands = ((refl, (refl, (refl, (refl, tt)))), refl)
imm_word Slti operands = ((refl, (refl, (refl, (refl, tt)))), refl)
imm_word Sltiu operands = ((refl, (refl, (refl, (refl, (refl, tt))))), refl)
imm_word Xori operands = ((refl, (refl, (refl, (refl, tt)))), refl)
imm_word Srli operands = ((refl, (refl, (refl, (refl, tt)))), refl)
imm_word Srai operands = ((refl, (refl, (refl, (refl, tt)))), refl)
imm_word Ori operands = ((refl, (refl, (refl, tt))), refl)
imm_word Andi operands = ((refl, (refl, (refl, (refl, tt)))), refl)

reg_word : (op : RegOp) (operands : List ℕ) → (Free 32 (reg_name op)) × (by_word (reg_name op) operands ≡ read_reg op operands)
reg_word Add operands = ((refl, (refl, (refl, tt))), refl)
reg_word Sub operands = ((refl, (refl, (refl, tt))), refl)
reg_word Sll operands = ((refl, (refl, (refl, tt))), refl)
reg_word Slt operands = ((refl, (refl, (refl, tt))), refl)
reg_word Sltu operands = ((refl, (refl, (refl, (refl, tt)))), refl)
reg_word Xor operands = ((refl, (refl, (refl, tt))), refl)
reg_word Srl operands = ((refl, (refl, (refl, tt))), refl)
reg_word Sra operands = ((refl, (refl, (refl, tt))), refl)
reg_word Or operands = ((refl, (refl, tt)), refl)
reg_word And operands = ((refl, (refl, (refl, tt))), refl)
reg_word Mul operands = ((refl, (refl, (refl, tt))), refl)
reg_word Mulh operands = ((refl, (refl, (refl, (refl, tt)))), refl)
reg_word Mulhsu operands = ((refl, (refl, (refl, (refl, (refl, (refl, tt)))))), refl)
reg_word Mulhu operands = ((refl, (refl, (refl, (refl, (refl, tt))))), refl)
reg_word Div operands = ((refl, (refl, (refl, tt))), refl)
reg_word Divu operands = ((refl, (refl, (refl, (refl, tt)))), refl)
reg_word Rem operands = ((refl, (refl, (refl, tt))), refl)
reg_word Remu operands = ((refl, (refl, (refl, (refl, tt)))), refl)

pub complete : (i : Instr) → IsSound i → instr_of_line (text_of i) ≡ Some i
complete (Lui rd n) s = spaced (codes "lui") (joined (register rd) (decimal n)) (Lui rd n) (refl, (refl, (refl, tt))) (lui_complete rd n s.0 s.1)
complete (Auipc rd n) s = spaced (codes "auipc") (joined (register rd) (decimal n)) (Auipc rd n) (refl, (refl, (refl, (refl, (refl, tt))))) (auipc_complete rd n s.0 s.1)
complete (Jal rd z) s = spaced (codes "jal") (joined (register rd) (signed_decimal z)) (Jal rd z) (refl, (refl, (refl, tt))) (jal_complete rd z s)
complete (Jalr rd base z) s = spaced (codes "jalr") (joined (register rd) (address z base)) (Jalr rd base z) (refl, (refl, (refl, (refl, tt)))) (jalr_complete rd base z s)
complete (Branch op a b z) s = let operands = joined (register a) (joined (register b) (signed_decimal z)) in let w = branch_word op operands in spaced (branch_name op) operands (Branch op a b z) w.0 (w.1 ∙ branch_line op a b z s)
complete (Load op rd base z) s = let operands = joined (register rd) (address z base) in let w = load_word op operands in spaced (load_name op) operands (Load op rd base z) w.0 (w.1 ∙ load_complete op rd base z s)
complete (Store op rs2 base z) s = let operands = joined (register rs2) (address z base) in let w = store_word op operands in spaced (store_name op) operands (Store op rs2 base z) w.0 (w.1 ∙ store_complete op rs2 base z s)
complete (Imm op a b z) s = let operands = joined (register a) (joined (register b) (signed_decimal z)) in let w = imm_word op operands in spaced (imm_name op) operands (Imm op a b z) w.0 (w.1 ∙ imm_line op a b z s)
complete (Reg op a b d) s = let operands = joined (register a) (joined (register b) (register d)) in let w = reg_word op operands in spaced (reg_name op) operands (Reg op a b d) w.0 (w.1 ∙ reg_line op a b d s)
complete Ecall s = refl
complete Fence s = refl

-- ---- what was read, written

-- the instruction is sound, and its line has this word and these operands
abbrev pub Writes : List ℕ → List ℕ → Instr → Type 0
Writes word operands i = IsSound i × (text_of i ≡ line word operands)

lui_sound : (text : List ℕ) (i : Instr) → read_lui text ≡ Some i → Writes (codes "lui") text i
lui_sound text i e = option_and_then_some _ (register_then text) i e (λ p first more. map_some _ (upper_of p.1) i more (λ n last is.
    let (small, whole) = then_sound text p.1 p.0 first in
    let (fits, back) = upper_sound p.1 n last in
    subst (λ j. Writes (codes "lui") text j) is ((small, fits), ap (line (codes "lui")) (ap (joined (register p.0)) back ∙ whole))))

auipc_sound : (text : List ℕ) (i : Instr) → read_auipc text ≡ Some i → Writes (codes "auipc") text i
auipc_sound text i e = option_and_then_some _ (register_then text) i e (λ p first more. map_some _ (upper_of p.1) i more (λ n last is.
    let (small, whole) = then_sound text p.1 p.0 first in
    let (fits, back) = upper_sound p.1 n last in
    subst (λ j. Writes (codes "auipc") text j) is ((small, fits), ap (line (codes "auipc")) (ap (joined (register p.0)) back ∙ whole))))

jal_sound : (text : List ℕ) (i : Instr) → read_jal text ≡ Some i → Writes (codes "jal") text i
jal_sound text i e = option_and_then_some _ (register_then text) i e (λ p first more. map_some _ (jump_offset p.1) i more (λ z last is.
    let (small, whole) = then_sound text p.1 p.0 first in
    let (range, twice, back) = jump_sound p.1 z last in
    subst (λ j. Writes (codes "jal") text j) is ((small, range, twice), ap (line (codes "jal")) (ap (joined (register p.0)) back ∙ whole))))

jalr_sound : (text : List ℕ) (i : Instr) → read_jalr text ≡ Some i → Writes (codes "jalr") text i
jalr_sound text i e = option_and_then_some _ (register_then text) i e (λ p first more. map_some _ (address_of p.1) i more (λ a last is.
    let (small, whole) = then_sound text p.1 p.0 first in
    let (range, base, back) = address_sound p.1 a.0 a.1 last in
    subst (λ j. Writes (codes "jalr") text j) is ((small, base, range), ap (line (codes "jalr")) (ap (joined (register p.0)) back ∙ whole))))

load_sound : (op : LoadOp) (text : List ℕ) (i : Instr) → read_load op text ≡ Some i → Writes (load_name op) text i
load_sound op text i e = option_and_then_some _ (register_then text) i e (λ p first more. map_some _ (address_of p.1) i more (λ a last is.
    let (small, whole) = then_sound text p.1 p.0 first in
    let (range, base, back) = address_sound p.1 a.0 a.1 last in
    subst (λ j. Writes (load_name op) text j) is ((small, base, range), ap (line (load_name op)) (ap (joined (register p.0)) back ∙ whole))))

store_sound : (op : StoreOp) (text : List ℕ) (i : Instr) → read_store op text ≡ Some i → Writes (store_name op) text i
store_sound op text i e = option_and_then_some _ (register_then text) i e (λ p first more. map_some _ (address_of p.1) i more (λ a last is.
    let (small, whole) = then_sound text p.1 p.0 first in
    let (range, base, back) = address_sound p.1 a.0 a.1 last in
    subst (λ j. Writes (store_name op) text j) is ((small, base, range), ap (line (store_name op)) (ap (joined (register p.0)) back ∙ whole))))

branch_read : (op : BranchOp) (text : List ℕ) (i : Instr) → read_branch op text ≡ Some i → Writes (branch_name op) text i
branch_read op text i e = option_and_then_some _ (register_then text) i e (λ p first more. option_and_then_some _ (register_then p.1) i more (λ q second rest. map_some _ (branch_offset q.1) i rest (λ z last is.
    let (small, whole) = then_sound text p.1 p.0 first in
    let (small_too, behind) = then_sound p.1 q.1 q.0 second in
    let (range, twice, back) = branch_sound q.1 z last in
    subst (λ j. Writes (branch_name op) text j) is ((small, small_too, range, twice), ap (line (branch_name op)) (ap (joined (register p.0)) (ap (joined (register q.0)) back ∙ behind) ∙ whole)))))

imm_read : (op : ImmOp) (text : List ℕ) (i : Instr) → read_imm op text ≡ Some i → Writes (imm_name op) text i
imm_read op text i e = option_and_then_some _ (register_then text) i e (λ p first more. option_and_then_some _ (register_then p.1) i more (λ q second rest. map_some _ (immediate_of op q.1) i rest (λ z last is.
    let (small, whole) = then_sound text p.1 p.0 first in
    let (small_too, behind) = then_sound p.1 q.1 q.0 second in
    let (fits, back) = immediate_sound op q.1 z last in
    subst (λ j. Writes (imm_name op) text j) is ((small, small_too, fits), ap (line (imm_name op)) (ap (joined (register p.0)) (ap (joined (register q.0)) back ∙ behind) ∙ whole)))))

reg_read : (op : RegOp) (text : List ℕ) (i : Instr) → read_reg op text ≡ Some i → Writes (reg_name op) text i
reg_read op text i e = option_and_then_some _ (register_then text) i e (λ p first more. option_and_then_some _ (register_then p.1) i more (λ q second rest. map_some _ (register_of q.1) i rest (λ d last is.
    let (small, whole) = then_sound text p.1 p.0 first in
    let (small_too, behind) = then_sound p.1 q.1 q.0 second in
    let (fits, back) = register_sound q.1 d last in
    subst (λ j. Writes (reg_name op) text j) is ((small, small_too, fits), ap (line (reg_name op)) (ap (joined (register p.0)) (ap (joined (register q.0)) back ∙ behind) ∙ whole)))))

-- a word that is one of a row of names
same_word : (word name : List ℕ) → bytes_eq word name ≡ true → word ≡ name
same_word word name e = (bytes_eq-Decides word name).0 e

pick : {X : Type 0} (word name : List ℕ) (x op : X) (rest : Option X) (name_of : X → List ℕ) → name ≡ name_of x → (rest ≡ Some op → word ≡ name_of op)
    → (b : Bool) → bytes_eq word name ≡ b → (if b then Some x else rest) ≡ Some op → word ≡ name_of op
pick word name x op rest name_of named later true t e = same_word word name t ∙ named ∙ ap name_of (same_Some x op e)
pick word name x op rest name_of named later false t e = later e

either : {P : Type 0} (word name : List ℕ) (x y : Option Instr) (i : Instr) → (word ≡ name → x ≡ Some i → P) → (y ≡ Some i → P)
    → (b : Bool) → bytes_eq word name ≡ b → (if b then x else y) ≡ Some i → P
either word name x y i hit miss true t e = hit (same_word word name t) e
either word name x y i hit miss false t e = miss e

branch_is : (word : List ℕ) (op : BranchOp) → branch_named word ≡ Some op → word ≡ branch_name op
branch_is word op =
    pick word (codes "beq") Beq op _ branch_name refl (
    pick word (codes "bne") Bne op _ branch_name refl (
    pick word (codes "blt") Blt op _ branch_name refl (
    pick word (codes "bge") Bge op _ branch_name refl (
    pick word (codes "bltu") Bltu op _ branch_name refl (
    pick word (codes "bgeu") Bgeu op _ branch_name refl (
    λ e. absurd (none-some op e)
    ) _ refl) _ refl) _ refl) _ refl) _ refl) _ refl

load_is : (word : List ℕ) (op : LoadOp) → load_named word ≡ Some op → word ≡ load_name op
load_is word op =
    pick word (codes "lb") Lb op _ load_name refl (
    pick word (codes "lh") Lh op _ load_name refl (
    pick word (codes "lw") Lw op _ load_name refl (
    pick word (codes "lbu") Lbu op _ load_name refl (
    pick word (codes "lhu") Lhu op _ load_name refl (
    λ e. absurd (none-some op e)
    ) _ refl) _ refl) _ refl) _ refl) _ refl

store_is : (word : List ℕ) (op : StoreOp) → store_named word ≡ Some op → word ≡ store_name op
store_is word op =
    pick word (codes "sb") Sb op _ store_name refl (
    pick word (codes "sh") Sh op _ store_name refl (
    pick word (codes "sw") Sw op _ store_name refl (
    λ e. absurd (none-some op e)
    ) _ refl) _ refl) _ refl

imm_is : (word : List ℕ) (op : ImmOp) → imm_named word ≡ Some op → word ≡ imm_name op
imm_is word op =
    pick word (codes "addi") Addi op _ imm_name refl (
    pick word (codes "slli") Slli op _ imm_name refl (
    pick word (codes "slti") Slti op _ imm_name refl (
    pick word (codes "sltiu") Sltiu op _ imm_name refl (
    pick word (codes "xori") Xori op _ imm_name refl (
    pick word (codes "srli") Srli op _ imm_name refl (
    pick word (codes "srai") Srai op _ imm_name refl (
    pick word (codes "ori") Ori op _ imm_name refl (
    pick word (codes "andi") Andi op _ imm_name refl (
    λ e. absurd (none-some op e)
    ) _ refl) _ refl) _ refl) _ refl) _ refl) _ refl) _ refl) _ refl) _ refl

reg_is : (word : List ℕ) (op : RegOp) → reg_named word ≡ Some op → word ≡ reg_name op
reg_is word op =
    pick word (codes "add") Add op _ reg_name refl (
    pick word (codes "sub") Sub op _ reg_name refl (
    pick word (codes "sll") Sll op _ reg_name refl (
    pick word (codes "slt") Slt op _ reg_name refl (
    pick word (codes "sltu") Sltu op _ reg_name refl (
    pick word (codes "xor") Xor op _ reg_name refl (
    pick word (codes "srl") Srl op _ reg_name refl (
    pick word (codes "sra") Sra op _ reg_name refl (
    pick word (codes "or") Or op _ reg_name refl (
    pick word (codes "and") And op _ reg_name refl (
    pick word (codes "mul") Mul op _ reg_name refl (
    pick word (codes "mulh") Mulh op _ reg_name refl (
    pick word (codes "mulhsu") Mulhsu op _ reg_name refl (
    pick word (codes "mulhu") Mulhu op _ reg_name refl (
    pick word (codes "div") Div op _ reg_name refl (
    pick word (codes "divu") Divu op _ reg_name refl (
    pick word (codes "rem") Rem op _ reg_name refl (
    pick word (codes "remu") Remu op _ reg_name refl (
    λ e. absurd (none-some op e)
    ) _ refl) _ refl) _ refl) _ refl) _ refl) _ refl) _ refl) _ refl) _ refl) _ refl) _ refl) _ refl) _ refl) _ refl) _ refl) _ refl) _ refl) _ refl

-- the instructions of a word, kind by kind
of_named : (word name text : List ℕ) (i : Instr) → word ≡ name → Writes name text i → Writes word text i
of_named word name text i e h = subst (λ w. Writes w text i) (sym e) h

by_reg_sound : (word text : List ℕ) (i : Instr) → by_reg word text ≡ Some i → Writes word text i
by_reg_sound word text i e = option_and_then_some (λ op. read_reg op text) (reg_named word) i e (λ op named read. of_named word (reg_name op) text i (reg_is word op named) (reg_read op text i read))

imm_or_sound : (o : Option ImmOp) (word text : List ℕ) (i : Instr) → imm_named word ≡ o → imm_or o word text ≡ Some i → Writes word text i
imm_or_sound None word text i named e = by_reg_sound word text i e
imm_or_sound (Some op) word text i named e = of_named word (imm_name op) text i (imm_is word op named) (imm_read op text i e)

store_or_sound : (o : Option StoreOp) (word text : List ℕ) (i : Instr) → store_named word ≡ o → store_or o word text ≡ Some i → Writes word text i
store_or_sound None word text i named e = imm_or_sound (imm_named word) word text i refl e
store_or_sound (Some op) word text i named e = of_named word (store_name op) text i (store_is word op named) (store_sound op text i e)

load_or_sound : (o : Option LoadOp) (word text : List ℕ) (i : Instr) → load_named word ≡ o → load_or o word text ≡ Some i → Writes word text i
load_or_sound None word text i named e = store_or_sound (store_named word) word text i refl e
load_or_sound (Some op) word text i named e = of_named word (load_name op) text i (load_is word op named) (load_sound op text i e)

branch_or_sound : (o : Option BranchOp) (word text : List ℕ) (i : Instr) → branch_named word ≡ o → branch_or o word text ≡ Some i → Writes word text i
branch_or_sound None word text i named e = load_or_sound (load_named word) word text i refl e
branch_or_sound (Some op) word text i named e = of_named word (branch_name op) text i (branch_is word op named) (branch_read op text i e)

by_word_sound : (word text : List ℕ) (i : Instr) → by_word word text ≡ Some i → Writes word text i
by_word_sound word text i =
    either word (codes "lui") (read_lui text) _ i (λ is e. of_named word (codes "lui") text i is (lui_sound text i e)) (
    either word (codes "auipc") (read_auipc text) _ i (λ is e. of_named word (codes "auipc") text i is (auipc_sound text i e)) (
    either word (codes "jal") (read_jal text) _ i (λ is e. of_named word (codes "jal") text i is (jal_sound text i e)) (
    either word (codes "jalr") (read_jalr text) _ i (λ is e. of_named word (codes "jalr") text i is (jalr_sound text i e)) (
    λ e. branch_or_sound (branch_named word) word text i refl e
    ) _ refl) _ refl) _ refl) _ refl

alone_sound : (word : List ℕ) (i : Instr) → alone_of word ≡ Some i → IsSound i × (text_of i ≡ word)
alone_sound word i =
    either word (codes "ecall") (Some Ecall) _ i (λ is e. subst (λ j. IsSound j × (text_of j ≡ word)) (same_Some Ecall i e) (tt, sym is)) (
    either word (codes "fence") (Some Fence) _ i (λ is e. subst (λ j. IsSound j × (text_of j ≡ word)) (same_Some Fence i e) (tt, sym is)) (
    λ e. absurd (none-some i e)
    ) _ refl) _ refl

spaced_sound : (o : Option (List ℕ × List ℕ)) (text : List ℕ) (i : Instr) → cut 32 text ≡ o → spaced_or o text ≡ Some i → IsSound i × (text_of i ≡ text)
spaced_sound None text i is e = alone_sound text i e
spaced_sound (Some p) text i is e = let h = by_word_sound p.0 p.1 i e in (h.0, h.1 ∙ sym (cut_sound 32 text p.0 p.1 is))

pub sound : (text : List ℕ) (i : Instr) → instr_of_line text ≡ Some i → IsSound i × (text_of i ≡ text)
sound text i e = spaced_sound (cut 32 text) text i refl e

-- the same of what was answered
pub answered : (text : List ℕ) (o : Option Instr) → o ≡ instr_of_line text → IfSome o (λ i. IsSound i × (text_of i ≡ text))
answered text None e = tt
answered text (Some i) e = sound text i (sym e)

pub found : (text : List ℕ) (o : Option Instr) (i : Instr) → o ≡ instr_of_line text → IsSound i → text_of i ≡ text → o ≡ Some i
found text o i e s writes = e ∙ ap instr_of_line (sym writes) ∙ complete i s

-- the instruction of a word, by its text and back
pub back : (w : ℕ) (o : Option Instr) → IfSome o (λ i. IsSound i × (word_of i ≡ w)) → IfSome o (λ i. IsSound i × (instr_of_line (text_of i) ≡ Some i) × (word_of i ≡ w))
back w None h = tt
back w (Some i) h = (h.0, complete i h.0, h.1)
