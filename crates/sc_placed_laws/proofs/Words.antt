-- Words of instructions, and what relocations leave of them.
use Rattle.std.proofs.Common.{◌≡◌, ◌<◌, ℕ, ◌+◌, ◌*◌, ◌/◌, ◌%◌, ◌^◌, ◌==◌, Bool, true, false, ◌&&◌, if◌then◌else◌, nat_lt, List, ◌∷◌, ◌++◌, refl, sym, ap, subst, ◌∙◌, ℤ, pos, negsuc, Some, arith}
use Rattle.std.proofs.lemmas.Bool.Decides.{nat_tests}
use Rattle.std.proofs.lemmas.Int.{ints}
use Rattle.sc_isa.specs.declared.instruction.Instr.{Instr}
use Rattle.sc_isa.specs.declared.instruction.Instr.TheVariants.{Lui, Auipc, Jal, Jalr, Branch, Load, Store, Imm, Reg, Ecall, Fence}
use Rattle.sc_isa.specs.declared.instruction.BranchOp.{BranchOp}
use Rattle.sc_isa.specs.declared.instruction.BranchOp.TheVariants.{Beq, Bne, Blt, Bge, Bltu, Bgeu}
use Rattle.sc_isa.specs.declared.instruction.LoadOp.{LoadOp}
use Rattle.sc_isa.specs.declared.instruction.LoadOp.TheVariants.{Lb, Lh, Lw, Lbu, Lhu}
use Rattle.sc_isa.specs.declared.instruction.StoreOp.{StoreOp}
use Rattle.sc_isa.specs.declared.instruction.StoreOp.TheVariants.{Sb, Sh, Sw}
use Rattle.sc_isa.specs.declared.instruction.ImmOp.{ImmOp}
use Rattle.sc_isa.specs.declared.instruction.ImmOp.TheVariants.{Addi, Slli, Slti, Sltiu, Xori, Srli, Srai, Ori, Andi}
use Rattle.sc_isa.specs.declared.instruction.RegOp.{RegOp}
use Rattle.sc_isa.specs.declared.instruction.RegOp.TheVariants as reg
use Rattle.sc_isa.specs.Table.{word_of, IsSound, IsShort, IsBetween, IsImmediate, IsEven, low_bits, branch_code, load_code, store_code, imm_code, imm_upper, reg_code, reg_upper}
use Rattle.sc_isa.specs.Reading.{instr_of, by_opcode, extend}
use Rattle.sc_isa.proofs.Complete.{complete as decodes}
use Rattle.sc_isa.proofs.Fields.{low_short, short_fits}
use Rattle.sc_isa_image.specs.Stubs.{upper_of}
use Rattle.sc_disas.proofs.Lines.{complete as reads}
use Rattle.sc_object.specs.Words as bytes
use Rattle.sc_link.specs.Relocation.{relocated, with_upper, with_lower, with_split, words}
use Rattle.sc_gen_code.specs.declared.symbolic.Symbolic.{Symbolic}
use Rattle.sc_gen_code.specs.declared.symbolic.Symbolic.TheVariants.{Plain, Upper, Lower, Call}
use Rattle.sc_gen_code.specs.declared.symbolic.Access.{Access}
use Rattle.sc_gen_code.specs.declared.symbolic.Access.TheVariants as access
use Rattle.sc_gen_code.specs.Code.{ra, t0, accessed}
use Rattle.sc_gen_code.specs.Operators.{is_short}
use Rattle.sc_gen_expr.specs.Words.{is_between, is_even, is_immediate, is_sound, plain_word, symbolic_word, lower_kind}
use Rattle.sc_placed_laws.specs.Sound.{Fits, IsLink}
use Rattle.sc_placed_laws.specs.Texts.{HasText}

-- ---- the word of a sound instruction is read as an instruction

of_number : (n k : ℕ) → (n == k) ≡ true → n ≡ k
of_number n k h = grind (arith, nat_tests)

no_number : (n k : ℕ) → (n == k) ≡ false → n ≡ k → ⊥
no_number n k h e = grind (arith, nat_tests)

one_text : (i : Instr) (w : ℕ) → IsSound i → word_of i ≡ w → instr_of w ≡ Some i → HasText w
one_text i w s e d = (i, (d, (e, reads i s)))

by_tests : (i : Instr) (w : ℕ) → IsSound i → word_of i ≡ w → (b c : Bool) → (w == 0x00000073) ≡ b → (w == 0x0ff0000f) ≡ c →
    (instr_of w ≡ (if b then Some Ecall else if c then Some Fence else by_opcode (w % 2 ^ 7) w)) → HasText w
by_tests i w s e true c p q d = one_text Ecall w tt (sym (of_number w 0x00000073 p)) d
by_tests i w s e false true p q d = one_text Fence w tt (sym (of_number w 0x0ff0000f q)) d
by_tests i w s e false false p q d = one_text i w s e (d ∙ decodes i w s e (no_number w 0x00000073 p) (no_number w 0x0ff0000f q))

pub decoded : (i : Instr) (w : ℕ) → IsSound i → word_of i ≡ w → HasText w
decoded i w s e = by_tests i w s e (w == 0x00000073) (w == 0x0ff0000f) refl refl refl

-- ---- it has 32 bits

pub branch_small : (o : BranchOp) → branch_code o < 8
branch_small Beq = omega arith
branch_small Bne = omega arith
branch_small Blt = omega arith
branch_small Bge = omega arith
branch_small Bltu = omega arith
branch_small Bgeu = omega arith

pub load_small : (o : LoadOp) → load_code o < 8
load_small Lb = omega arith
load_small Lh = omega arith
load_small Lw = omega arith
load_small Lbu = omega arith
load_small Lhu = omega arith

pub store_small : (o : StoreOp) → store_code o < 8
store_small Sb = omega arith
store_small Sh = omega arith
store_small Sw = omega arith

imm_small : (o : ImmOp) → imm_code o < 8
imm_small Addi = omega arith
imm_small Slli = omega arith
imm_small Slti = omega arith
imm_small Sltiu = omega arith
imm_small Xori = omega arith
imm_small Srli = omega arith
imm_small Srai = omega arith
imm_small Ori = omega arith
imm_small Andi = omega arith

reg_small : (o : RegOp) → (reg_code o < 8) × (reg_upper o < 128)
reg_small reg.Add = (omega arith, omega arith)
reg_small reg.Sub = (omega arith, omega arith)
reg_small reg.Sll = (omega arith, omega arith)
reg_small reg.Slt = (omega arith, omega arith)
reg_small reg.Sltu = (omega arith, omega arith)
reg_small reg.Xor = (omega arith, omega arith)
reg_small reg.Srl = (omega arith, omega arith)
reg_small reg.Sra = (omega arith, omega arith)
reg_small reg.Or = (omega arith, omega arith)
reg_small reg.And = (omega arith, omega arith)
reg_small reg.Mul = (omega arith, omega arith)
reg_small reg.Mulh = (omega arith, omega arith)
reg_small reg.Mulhsu = (omega arith, omega arith)
reg_small reg.Mulhu = (omega arith, omega arith)
reg_small reg.Div = (omega arith, omega arith)
reg_small reg.Divu = (omega arith, omega arith)
reg_small reg.Rem = (omega arith, omega arith)
reg_small reg.Remu = (omega arith, omega arith)

shift_bits : (z : ℤ) → IsBetween (pos 0) (pos 31) z → low_bits 12 z < 32
shift_bits (pos n) h = let e : n % 2 ^ 12 ≡ n = omega (arith, ints) in omega (arith, ints)
shift_bits (negsuc n) h = absurd (omega (arith, ints))

-- the twelve bits of an immediate
imm_bits : (o : ImmOp) (z : ℤ) → IsImmediate o z → imm_upper o * 2 ^ 5 + low_bits 12 z < 2 ^ 12
imm_bits Srai z h = let s = shift_bits z h in omega (arith, s)
imm_bits Addi z h = omega arith
imm_bits Slli z h = omega arith
imm_bits Slti z h = omega arith
imm_bits Sltiu z h = omega arith
imm_bits Xori z h = omega arith
imm_bits Srli z h = omega arith
imm_bits Ori z h = omega arith
imm_bits Andi z h = omega arith

pub word_small : (i : Instr) → IsSound i → word_of i < 2 ^ 32
word_small (Lui rd n) s = omega (arith, s.0, s.1)
word_small (Auipc rd n) s = omega (arith, s.0, s.1)
word_small (Jal rd z) s = let d = s.0 in omega (arith, d)
word_small (Jalr rd rs z) s = let d = s.0 in let b = s.1 in omega (arith, d, b)
word_small (Branch o rs rt z) s = let d = s.0 in let b = s.1 in let c = branch_small o in omega (arith, d, b, c)
word_small (Load o rd rs z) s = let d = s.0 in let b = s.1 in let c = load_small o in omega (arith, d, b, c)
word_small (Store o rt rs z) s = let d = s.0 in let b = s.1 in let c = store_small o in omega (arith, d, b, c)
word_small (Imm o rd rs z) s = let d = s.0 in let b = s.1 in let c = imm_small o in let m = imm_bits o z s.2 in omega (arith, d, b, c, m)
word_small (Reg o rd rs rt) s = let d = s.0 in let b = s.1 in let t = s.2 in let c = reg_small o in let c0 = c.0 in let c1 = c.1 in omega (arith, d, b, t, c0, c1)
word_small Ecall s = omega arith
word_small Fence s = omega arith

-- ---- it is found sound

below : (m n : ℕ) → m < n → nat_lt m n ≡ true
below m n h = grind (arith, nat_tests)

all_two : (a b : Bool) → a ≡ true → b ≡ true → (a && b) ≡ true
all_two a b p q = ap (λ (x : Bool). x && b) p ∙ q

all_three : (a b c : Bool) → a ≡ true → b ≡ true → c ≡ true → (a && b && c) ≡ true
all_three a b c p q r = ap (λ (x : Bool). x && b && c) p ∙ ap (λ (x : Bool). true && x && c) q ∙ ap (λ (x : Bool). true && true && x) r

all_four : (a b c d : Bool) → a ≡ true → b ≡ true → c ≡ true → d ≡ true → (a && b && c && d) ≡ true
all_four a b c d p q r s =
    ap (λ (x : Bool). x && b && c && d) p ∙ ap (λ (x : Bool). true && x && c && d) q ∙ ap (λ (x : Bool). true && true && x && d) r ∙ ap (λ (x : Bool). true && true && true && x) s

short_told : (z : ℤ) → IsShort z → is_short z ≡ true
short_told z h = grind (arith, ints, nat_tests)

shift_told : (z : ℤ) → IsBetween (pos 0) (pos 31) z → is_between (pos 0) (pos 31) z ≡ true
shift_told z h = grind (arith, ints, nat_tests)

even_told : (z : ℤ) → IsEven z → is_even z ≡ true
even_told z h = grind (arith, nat_tests)

jump_told : (z : ℤ) → IsBetween (negsuc 1048575) (pos 1048574) z → is_between (negsuc 1048575) (pos 1048574) z ≡ true
jump_told z h = grind (arith, ints, nat_tests)

branch_told : (z : ℤ) → IsBetween (negsuc 4095) (pos 4094) z → is_between (negsuc 4095) (pos 4094) z ≡ true
branch_told z h = grind (arith, ints, nat_tests)

immediate_told : (o : ImmOp) (z : ℤ) → IsImmediate o z → is_immediate o z ≡ true
immediate_told Slli z h = shift_told z h
immediate_told Srli z h = shift_told z h
immediate_told Srai z h = shift_told z h
immediate_told Addi z h = short_told z h
immediate_told Slti z h = short_told z h
immediate_told Sltiu z h = short_told z h
immediate_told Xori z h = short_told z h
immediate_told Ori z h = short_told z h
immediate_told Andi z h = short_told z h

sound_told : (i : Instr) → IsSound i → is_sound i ≡ true
sound_told (Lui rd n) s = all_two (nat_lt rd 32) (nat_lt n (2 ^ 20)) (below rd 32 s.0) (below n (2 ^ 20) s.1)
sound_told (Auipc rd n) s = all_two (nat_lt rd 32) (nat_lt n (2 ^ 20)) (below rd 32 s.0) (below n (2 ^ 20) s.1)
sound_told (Jal rd z) s = all_three (nat_lt rd 32) (is_even z) (is_between (negsuc 1048575) (pos 1048574) z) (below rd 32 s.0) (even_told z s.2) (jump_told z s.1)
sound_told (Jalr rd rs z) s = all_three (nat_lt rd 32) (nat_lt rs 32) (is_short z) (below rd 32 s.0) (below rs 32 s.1) (short_told z s.2)
sound_told (Branch o rs rt z) s =
    all_four (nat_lt rs 32) (nat_lt rt 32) (is_even z) (is_between (negsuc 4095) (pos 4094) z) (below rs 32 s.0) (below rt 32 s.1) (even_told z s.3) (branch_told z s.2)
sound_told (Load o rd rs z) s = all_three (nat_lt rd 32) (nat_lt rs 32) (is_short z) (below rd 32 s.0) (below rs 32 s.1) (short_told z s.2)
sound_told (Store o rt rs z) s = all_three (nat_lt rt 32) (nat_lt rs 32) (is_short z) (below rt 32 s.0) (below rs 32 s.1) (short_told z s.2)
sound_told (Imm o rd rs z) s = all_three (nat_lt rd 32) (nat_lt rs 32) (is_immediate o z) (below rd 32 s.0) (below rs 32 s.1) (immediate_told o z s.2)
sound_told (Reg o rd rs rt) s = all_three (nat_lt rd 32) (nat_lt rs 32) (nat_lt rt 32) (below rd 32 s.0) (below rs 32 s.1) (below rt 32 s.2)
sound_told Ecall s = refl
sound_told Fence s = refl

plain_is : (i : Instr) → IsSound i → plain_word i ≡ word_of i
plain_is i s = ap (λ (b : Bool). if b then word_of i else 0) (sound_told i s)

-- ---- what a word is while addresses are filled in

-- a jump by a register keeps its registers; every other instruction stays
abbrev pub PlainClass : Instr → ℕ → Type 0
PlainClass (Jalr rd rs y) w = (z : ℤ) × (IsSound (Jalr rd rs z) × (word_of (Jalr rd rs z) ≡ w))
PlainClass i w = IsSound i × (word_of i ≡ w)

abbrev pub Class : Symbolic → ℕ → Type 0
Class (Plain i) w = PlainClass i w
Class (Upper target) w = (n : ℕ) × (IsSound (Lui t0 n) × (word_of (Lui t0 n) ≡ w))
Class (Lower what target) w = (z : ℤ) × (IsSound (accessed what t0 z) × (word_of (accessed what t0 z) ≡ w))
Class (Call target) w = (n : ℕ) × (IsSound (Auipc ra n) × (word_of (Auipc ra n) ≡ w))

plain_first : (i : Instr) → IsSound i → PlainClass i (word_of i)
plain_first (Lui rd n) s = (s, refl)
plain_first (Auipc rd n) s = (s, refl)
plain_first (Jal rd z) s = (s, refl)
plain_first (Jalr rd rs z) s = (z, (s, refl))
plain_first (Branch o rs rt z) s = (s, refl)
plain_first (Load o rd rs z) s = (s, refl)
plain_first (Store o rt rs z) s = (s, refl)
plain_first (Imm o rd rs z) s = (s, refl)
plain_first (Reg o rd rs rt) s = (s, refl)
plain_first Ecall s = (s, refl)
plain_first Fence s = (s, refl)

zero_upper : 0 < 2 ^ 20
zero_upper = omega arith

t0_small : t0 < 32
t0_small = omega arith

ra_small : ra < 32
ra_small = omega arith

-- the words of a text before its relocations
pub class_first : (x : Symbolic) → Fits x → Class x (symbolic_word x)
class_first (Plain i) f = subst (PlainClass i) (sym (plain_is i f)) (plain_first i f)
class_first (Upper t) f = (0, ((t0_small, zero_upper), refl))
class_first (Lower what t) f = (pos 0, (f, sym (plain_is (accessed what t0 (pos 0)) f)))
class_first (Call t) f = (0, ((ra_small, zero_upper), refl))

plain_text : (i : Instr) (w : ℕ) → PlainClass i w → HasText w
plain_text (Jalr rd rs y) w c = decoded (Jalr rd rs c.0) w c.1.0 c.1.1
plain_text (Lui rd n) w c = decoded (Lui rd n) w c.0 c.1
plain_text (Auipc rd n) w c = decoded (Auipc rd n) w c.0 c.1
plain_text (Jal rd z) w c = decoded (Jal rd z) w c.0 c.1
plain_text (Branch o rs rt z) w c = decoded (Branch o rs rt z) w c.0 c.1
plain_text (Load o rd rs z) w c = decoded (Load o rd rs z) w c.0 c.1
plain_text (Store o rt rs z) w c = decoded (Store o rt rs z) w c.0 c.1
plain_text (Imm o rd rs z) w c = decoded (Imm o rd rs z) w c.0 c.1
plain_text (Reg o rd rs rt) w c = decoded (Reg o rd rs rt) w c.0 c.1
plain_text Ecall w c = decoded Ecall w c.0 c.1
plain_text Fence w c = decoded Fence w c.0 c.1

pub class_text : (x : Symbolic) (w : ℕ) → Class x w → HasText w
class_text (Plain i) w c = plain_text i w c
class_text (Upper t) w c = decoded (Lui t0 c.0) w c.1.0 c.1.1
class_text (Lower what t) w c = decoded (accessed what t0 c.0) w c.1.0 c.1.1
class_text (Call t) w c = decoded (Auipc ra c.0) w c.1.0 c.1.1

-- ---- relocations

upper_fits : (at : ℕ) → upper_of at < 2 ^ 20
upper_fits at = omega arith

with_upper_lui : (at rd n : ℕ) → rd < 32 → n < 2 ^ 20 → word_of (Lui rd (upper_of at)) ≡ with_upper at (word_of (Lui rd n))
with_upper_lui at rd n h k = omega (arith, h, k)

with_upper_auipc : (at rd n : ℕ) → rd < 32 → n < 2 ^ 20 → word_of (Auipc rd (upper_of at)) ≡ with_upper at (word_of (Auipc rd n))
with_upper_auipc at rd n h k = omega (arith, h, k)

-- the lower part of an address, with its sign
abbrev lower : ℕ → ℤ
lower at = extend (2 ^ 11) (at % 2 ^ 12)

lower_short : (at : ℕ) → IsShort (lower at)
lower_short at = short_fits (at % 2 ^ 12) (omega arith)

lower_bits : (at : ℕ) → low_bits 12 (lower at) ≡ at % 2 ^ 12
lower_bits at = low_short (at % 2 ^ 12) (omega arith)

-- an I-type word by its parts
i_kept : (o d f a m at : ℕ) → o < 128 → d < 32 → f < 8 → a < 32 → (o + d * 2 ^ 7 + f * 2 ^ 12 + a * 2 ^ 15 + m * 2 ^ 20) % 2 ^ 20 + at % 2 ^ 12 * 2 ^ 20 ≡ o + d * 2 ^ 7 + f * 2 ^ 12 + a * 2 ^ 15 + at % 2 ^ 12 * 2 ^ 20
i_kept o d f a m at ho hd hf ha = omega arith

-- the same of an operation with a constant
c_kept : (d a m at : ℕ) → d < 32 → a < 32 → (0x13 + d * 2 ^ 7 + 0 * 2 ^ 12 + a * 2 ^ 15 + (0 * 2 ^ 5 + m) * 2 ^ 20) % 2 ^ 20 + at % 2 ^ 12 * 2 ^ 20 ≡ 0x13 + d * 2 ^ 7 + 0 * 2 ^ 12 + a * 2 ^ 15 + (0 * 2 ^ 5 + at % 2 ^ 12) * 2 ^ 20
c_kept d a m at hd ha = omega arith

s_kept : (o f a b m at : ℕ) → o < 128 → f < 8 → a < 32 → b < 32 → m < 2 ^ 12 →
    (o + m % 2 ^ 5 * 2 ^ 7 + f * 2 ^ 12 + a * 2 ^ 15 + b * 2 ^ 20 + m / 2 ^ 5 * 2 ^ 25) % 2 ^ 7 + at % 2 ^ 5 * 2 ^ 7
    + (o + m % 2 ^ 5 * 2 ^ 7 + f * 2 ^ 12 + a * 2 ^ 15 + b * 2 ^ 20 + m / 2 ^ 5 * 2 ^ 25) / 2 ^ 12 % 2 ^ 13 * 2 ^ 12 + at / 2 ^ 5 % 2 ^ 7 * 2 ^ 25
    ≡ o + at % 2 ^ 12 % 2 ^ 5 * 2 ^ 7 + f * 2 ^ 12 + a * 2 ^ 15 + b * 2 ^ 20 + at % 2 ^ 12 / 2 ^ 5 * 2 ^ 25
s_kept o f a b m at ho hf ha hb hm = omega arith

bits_small : (z : ℤ) → low_bits 12 z < 2 ^ 12
bits_small z = omega arith

with_lower_jalr : (at rd rs : ℕ) (z : ℤ) → rd < 32 → rs < 32 → word_of (Jalr rd rs (lower at)) ≡ with_lower at (word_of (Jalr rd rs z))
with_lower_jalr at rd rs z d a =
    ap (λ (m : ℕ). 0x67 + rd * 2 ^ 7 + 0 * 2 ^ 12 + rs * 2 ^ 15 + m * 2 ^ 20) (lower_bits at) ∙ sym (i_kept 0x67 rd 0 rs (low_bits 12 z) at (omega arith) d (omega arith) a)

with_lower_load : (o : LoadOp) (at rd rs : ℕ) (z : ℤ) → rd < 32 → rs < 32 → word_of (Load o rd rs (lower at)) ≡ with_lower at (word_of (Load o rd rs z))
with_lower_load o at rd rs z d a =
    ap (λ (m : ℕ). 0x03 + rd * 2 ^ 7 + load_code o * 2 ^ 12 + rs * 2 ^ 15 + m * 2 ^ 20) (lower_bits at) ∙ sym (i_kept 0x03 rd (load_code o) rs (low_bits 12 z) at (omega arith) d (load_small o) a)

with_lower_addi : (at rd rs : ℕ) (z : ℤ) → rd < 32 → rs < 32 → word_of (Imm Addi rd rs (lower at)) ≡ with_lower at (word_of (Imm Addi rd rs z))
with_lower_addi at rd rs z d a =
    ap (λ (m : ℕ). 0x13 + rd * 2 ^ 7 + 0 * 2 ^ 12 + rs * 2 ^ 15 + (0 * 2 ^ 5 + m) * 2 ^ 20) (lower_bits at) ∙ sym (c_kept rd rs (low_bits 12 z) at d a)

with_split_store : (o : StoreOp) (at rt rs : ℕ) (z : ℤ) → rt < 32 → rs < 32 → word_of (Store o rt rs (lower at)) ≡ with_split at (word_of (Store o rt rs z))
with_split_store o at rt rs z t a =
    ap (λ (m : ℕ). 0x23 + m % 2 ^ 5 * 2 ^ 7 + store_code o * 2 ^ 12 + rs * 2 ^ 15 + rt * 2 ^ 20 + m / 2 ^ 5 * 2 ^ 25) (lower_bits at)
    ∙ sym (s_kept 0x23 (store_code o) rs rt (low_bits 12 z) at (omega arith) (store_small o) a t (bits_small z))

-- what a relocation of the word itself leaves
upper_again : (at w rd n : ℕ) → rd < 32 → n < 2 ^ 20 → word_of (Lui rd n) ≡ w → word_of (Lui rd (upper_of at)) ≡ with_upper at w
upper_again at w rd n h k e = with_upper_lui at rd n h k ∙ ap (with_upper at) e

lower_again : (what : Access) (at w : ℕ) (z : ℤ) → IsSound (accessed what t0 z) → word_of (accessed what t0 z) ≡ w →
    IsSound (accessed what t0 (lower at)) × (word_of (accessed what t0 (lower at)) ≡ relocated (lower_kind what) false at w)
lower_again (access.Load o rd) at w z s e = ((s.0, s.1, lower_short at), with_lower_load o at rd t0 z s.0 s.1 ∙ ap (with_lower at) e)
lower_again (access.Store o rs) at w z s e = ((s.0, s.1, lower_short at), with_split_store o at rs t0 z s.0 s.1 ∙ ap (with_split at) e)
lower_again (access.Address rd) at w z s e = ((s.0, s.1, lower_short at), with_lower_addi at rd t0 z s.0 s.1 ∙ ap (with_lower at) e)

pub upper_kept : (at w : ℕ) (c : (n : ℕ) × (IsSound (Lui t0 n) × (word_of (Lui t0 n) ≡ w))) → (n : ℕ) × (IsSound (Lui t0 n) × (word_of (Lui t0 n) ≡ relocated 26 false at w))
upper_kept at w c = (upper_of at, ((t0_small, upper_fits at), with_upper_lui at t0 c.0 c.1.0.0 c.1.0.1 ∙ ap (with_upper at) c.1.1))

pub lower_kept : (what : Access) (at w : ℕ) (c : (z : ℤ) × (IsSound (accessed what t0 z) × (word_of (accessed what t0 z) ≡ w))) →
    (z : ℤ) × (IsSound (accessed what t0 z) × (word_of (accessed what t0 z) ≡ relocated (lower_kind what) false at w))
lower_kept what at w c = (lower at, lower_again what at w c.0 c.1.0 c.1.1)

pub call_kept : (at w : ℕ) (c : (n : ℕ) × (IsSound (Auipc ra n) × (word_of (Auipc ra n) ≡ w))) → (n : ℕ) × (IsSound (Auipc ra n) × (word_of (Auipc ra n) ≡ relocated 19 false at w))
call_kept at w c = (upper_of at, ((ra_small, upper_fits at), with_upper_auipc at ra c.0 c.1.0.0 c.1.0.1 ∙ ap (with_upper at) c.1.1))

-- the second word of a call
pub link_kept : (i : Instr) → IsLink i → (at w : ℕ) → PlainClass i w → PlainClass i (relocated 19 true at w)
link_kept (Jalr rd rs y) l at w c = (lower at, ((c.1.0.0, c.1.0.1, lower_short at), with_lower_jalr at rd rs c.0 c.1.0.0 c.1.0.1 ∙ ap (with_lower at) c.1.1))
link_kept (Lui rd n) l at w c = absurd l
link_kept (Auipc rd n) l at w c = absurd l
link_kept (Jal rd z) l at w c = absurd l
link_kept (Branch o rs rt z) l at w c = absurd l
link_kept (Load o rd rs z) l at w c = absurd l
link_kept (Store o rt rs z) l at w c = absurd l
link_kept (Imm o rd rs z) l at w c = absurd l
link_kept (Reg o rd rs rt) l at w c = absurd l
link_kept Ecall l at w c = absurd l
link_kept Fence l at w c = absurd l

-- ---- words as bytes

put_together : (n : ℕ) → n < 2 ^ 32 → n % 2 ^ 8 + n / 2 ^ 8 % 2 ^ 8 * 2 ^ 8 + n / 2 ^ 16 % 2 ^ 8 * 2 ^ 16 + n / 2 ^ 24 % 2 ^ 8 * 2 ^ 24 ≡ n
put_together n h = omega arith

pub symbolic_small : (x : Symbolic) → Fits x → symbolic_word x < 2 ^ 32
symbolic_small (Plain i) f = subst (λ (n : ℕ). n < 2 ^ 32) (sym (plain_is i f)) (word_small i f)
symbolic_small (Upper t) f = word_small (Lui t0 0) (t0_small, zero_upper)
symbolic_small (Lower what t) f = subst (λ (n : ℕ). n < 2 ^ 32) (sym (plain_is (accessed what t0 (pos 0)) f)) (word_small (accessed what t0 (pos 0)) f)
symbolic_small (Call t) f = word_small (Auipc ra 0) (ra_small, zero_upper)

pub word_back : (n : ℕ) (rest : List ℕ) → n < 2 ^ 32 → words (bytes.word n ++ rest) ≡ n ∷ words rest
word_back n rest h = ap (λ (m : ℕ). m ∷ words rest) (put_together n h)
