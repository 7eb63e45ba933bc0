-- The word of a sound instruction is read as that instruction.
use Rattle.std.proofs.Common.{◌≡◌, ◌≢◌, ℕ, ◌+◌, ◌*◌, ◌/◌, ◌%◌, ◌<◌, ◌^◌, ◌==◌, if◌then◌else◌, ℤ, pos, negsuc, Option, Some, refl, sym, ap, ◌∙◌, arith}
use Rattle.std.proofs.lemmas.Int.{ints}
use Rattle.sc_isa.specs.declared.instruction.Instr.{Instr}
use Rattle.sc_isa.specs.declared.instruction.Instr.TheVariants.{Lui, Auipc, Jal, Jalr, Branch, Load, Store, Imm, Reg, Ecall, Fence}
use Rattle.sc_isa.specs.declared.instruction.BranchOp.{BranchOp}
use Rattle.sc_isa.specs.declared.instruction.BranchOp.TheVariants.{Beq, Bne, Blt, Bge, Bltu, Bgeu}
use Rattle.sc_isa.specs.declared.instruction.LoadOp.{LoadOp}
use Rattle.sc_isa.specs.declared.instruction.LoadOp.TheVariants.{Lb, Lh, Lw, Lbu, Lhu}
use Rattle.sc_isa.specs.declared.instruction.StoreOp.{StoreOp}
use Rattle.sc_isa.specs.declared.instruction.StoreOp.TheVariants.{Sb, Sh, Sw}
use Rattle.sc_isa.specs.declared.instruction.ImmOp.{ImmOp}
use Rattle.sc_isa.specs.declared.instruction.ImmOp.TheVariants.{Addi, Slli, Slti, Sltiu, Xori, Srli, Srai, Ori, Andi}
use Rattle.sc_isa.specs.declared.instruction.RegOp.{RegOp}
use Rattle.sc_isa.specs.declared.instruction.RegOp.TheVariants.{Add, Sub, Sll, Slt, Sltu, Xor, Srl, Sra, Or, And, Mul, Mulh, Mulhsu, Mulhu, Div, Divu, Rem, Remu}
use Rattle.sc_isa.specs.Table.{word_of, IsSound, IsShort, IsBetween, IsImmediate, r_word, i_word, u_word, j_word, low_bits, branch_code, load_code, store_code, imm_code, imm_upper, reg_code, reg_upper}
use Rattle.sc_isa.specs.Reading.{rd_of, funct3_of, rs1_of, rs2_of, funct7_of, extend, branch_bits, jump_bits, branch_op, load_op, store_op, shift_op, short_op, reg_op, read_shift, read_short, read_imm, by_opcode}
use Rattle.sc_isa.proofs.Fields.{opcode_is, rd_is, funct3_is, rs1_is, rs2_is, funct7_is, branch_bits_is, jump_bits_is, extend_short, extend_branch, extend_jump}

-- the codes of the operations and back
branch_op_of : (op : BranchOp) → (branch_code op < 8) × (branch_op (branch_code op) ≡ Some op)
branch_op_of Beq = (omega arith, refl)
branch_op_of Bne = (omega arith, refl)
branch_op_of Blt = (omega arith, refl)
branch_op_of Bge = (omega arith, refl)
branch_op_of Bltu = (omega arith, refl)
branch_op_of Bgeu = (omega arith, refl)

load_op_of : (op : LoadOp) → (load_code op < 8) × (load_op (load_code op) ≡ Some op)
load_op_of Lb = (omega arith, refl)
load_op_of Lh = (omega arith, refl)
load_op_of Lw = (omega arith, refl)
load_op_of Lbu = (omega arith, refl)
load_op_of Lhu = (omega arith, refl)

store_op_of : (op : StoreOp) → (store_code op < 8) × (store_op (store_code op) ≡ Some op)
store_op_of Sb = (omega arith, refl)
store_op_of Sh = (omega arith, refl)
store_op_of Sw = (omega arith, refl)

reg_op_of : (op : RegOp) → (reg_code op < 8) × (reg_upper op < 128) × (reg_op (reg_upper op) (reg_code op) ≡ Some op)
reg_op_of Add = (omega arith, omega arith, refl)
reg_op_of Sub = (omega arith, omega arith, refl)
reg_op_of Sll = (omega arith, omega arith, refl)
reg_op_of Slt = (omega arith, omega arith, refl)
reg_op_of Sltu = (omega arith, omega arith, refl)
reg_op_of Xor = (omega arith, omega arith, refl)
reg_op_of Srl = (omega arith, omega arith, refl)
reg_op_of Sra = (omega arith, omega arith, refl)
reg_op_of Or = (omega arith, omega arith, refl)
reg_op_of And = (omega arith, omega arith, refl)
reg_op_of Mul = (omega arith, omega arith, refl)
reg_op_of Mulh = (omega arith, omega arith, refl)
reg_op_of Mulhsu = (omega arith, omega arith, refl)
reg_op_of Mulhu = (omega arith, omega arith, refl)
reg_op_of Div = (omega arith, omega arith, refl)
reg_op_of Divu = (omega arith, omega arith, refl)
reg_op_of Rem = (omega arith, omega arith, refl)
reg_op_of Remu = (omega arith, omega arith, refl)

lui : (w rd upper : ℕ) → u_word 0x37 rd upper ≡ w → rd < 32 → upper < 2 ^ 20 → by_opcode (w % 2 ^ 7) w ≡ Some (Lui rd upper)
lui w rd upper e d h =
    let o : w % 2 ^ 7 ≡ 0x37 = omega arith in
    let r : rd_of w ≡ rd = omega arith in
    let u : w / 2 ^ 12 ≡ upper = omega arith in
    ap (λ n. by_opcode n w) o ∙ ap (λ n. Some (Lui n (w / 2 ^ 12))) r ∙ ap (λ n. Some (Lui rd n)) u

auipc : (w rd upper : ℕ) → u_word 0x17 rd upper ≡ w → rd < 32 → upper < 2 ^ 20 → by_opcode (w % 2 ^ 7) w ≡ Some (Auipc rd upper)
auipc w rd upper e d h =
    let o : w % 2 ^ 7 ≡ 0x17 = omega arith in
    let r : rd_of w ≡ rd = omega arith in
    let u : w / 2 ^ 12 ≡ upper = omega arith in
    ap (λ n. by_opcode n w) o ∙ ap (λ n. Some (Auipc n (w / 2 ^ 12))) r ∙ ap (λ n. Some (Auipc rd n)) u

jal : (w rd n : ℕ) (z : ℤ) → j_word 0x6f rd n ≡ w → rd < 32 → n < 2 ^ 21 → n % 2 ≡ 0 → extend (2 ^ 20) n ≡ z → by_opcode (w % 2 ^ 7) w ≡ Some (Jal rd z)
jal w rd n z e d h even x =
    let o : w % 2 ^ 7 ≡ 0x6f = omega arith in
    let r : rd_of w ≡ rd = omega arith in
    let u : w / 2 ^ 12 ≡ n / 2 ^ 12 % 2 ^ 8 + n / 2 ^ 11 % 2 ^ 1 * 2 ^ 8 + n / 2 ^ 1 % 2 ^ 10 * 2 ^ 9 + n / 2 ^ 20 % 2 ^ 1 * 2 ^ 19 = omega arith in
    ap (λ k. by_opcode k w) o ∙ ap (λ k. Some (Jal k (extend (2 ^ 20) (jump_bits (w / 2 ^ 12))))) r
    ∙ ap (λ k. Some (Jal rd (extend (2 ^ 20) k))) (ap jump_bits u ∙ jump_bits_is n h even) ∙ ap (λ k. Some (Jal rd k)) x

-- from the fields of the word, each equal to its part of the instruction
module _ (w d f a b g : ℕ) (d-is : rd_of w ≡ d) (f-is : funct3_of w ≡ f) (a-is : rs1_of w ≡ a) (b-is : rs2_of w ≡ b) (g-is : funct7_of w ≡ g) (z : ℤ) where
  reg : (op : RegOp) → w % 2 ^ 7 ≡ 0x33 → reg_op g f ≡ Some op → by_opcode (w % 2 ^ 7) w ≡ Some (Reg op d a b)
  reg op o r = ap (λ n. by_opcode n w) o ∙ rw d-is (rw f-is (rw a-is (rw b-is (rw g-is (rw r refl)))))

  jalr : w % 2 ^ 7 ≡ 0x67 → f ≡ 0 → extend (2 ^ 11) (w / 2 ^ 20) ≡ z → by_opcode (w % 2 ^ 7) w ≡ Some (Jalr d a z)
  jalr o r x = ap (λ n. by_opcode n w) o ∙ rw d-is (rw f-is (rw a-is (rw r (rw x refl))))

  load : (op : LoadOp) → w % 2 ^ 7 ≡ 0x03 → load_op f ≡ Some op → extend (2 ^ 11) (w / 2 ^ 20) ≡ z → by_opcode (w % 2 ^ 7) w ≡ Some (Load op d a z)
  load op o r x = ap (λ n. by_opcode n w) o ∙ rw d-is (rw f-is (rw a-is (rw r (rw x refl))))

  store : (op : StoreOp) → w % 2 ^ 7 ≡ 0x23 → store_op f ≡ Some op → extend (2 ^ 11) (d + g * 2 ^ 5) ≡ z → by_opcode (w % 2 ^ 7) w ≡ Some (Store op b a z)
  store op o r x = ap (λ n. by_opcode n w) o ∙ rw d-is (rw f-is (rw a-is (rw b-is (rw g-is (rw r (rw x refl))))))

  branch : (op : BranchOp) → w % 2 ^ 7 ≡ 0x63 → branch_op f ≡ Some op → extend (2 ^ 12) (branch_bits d g) ≡ z → by_opcode (w % 2 ^ 7) w ≡ Some (Branch op a b z)
  branch op o r x = ap (λ n. by_opcode n w) o ∙ rw d-is (rw f-is (rw a-is (rw b-is (rw g-is (rw r (rw x refl))))))

  imm_read : (i : Instr) → w % 2 ^ 7 ≡ 0x13 → read_imm w ≡ Some i → by_opcode (w % 2 ^ 7) w ≡ Some i
  imm_read i o r = ap (λ n. by_opcode n w) o ∙ r

module _ (w d f a b g : ℕ) (hd : d < 32) (hf : f < 8) (ha : a < 32) (hb : b < 32) (hg : g < 128) where
  from_reg : (op : RegOp) → r_word 0x33 d f a b g ≡ w → reg_op g f ≡ Some op → by_opcode (w % 2 ^ 7) w ≡ Some (Reg op d a b)
  from_reg op e r =
      let o : 0x33 < 128 = omega arith in
      reg w d f a b g (rd_is w 0x33 d f a b g (sym e) o hd hf ha hb hg) (funct3_is w 0x33 d f a b g (sym e) o hd hf ha hb hg) (rs1_is w 0x33 d f a b g (sym e) o hd hf ha hb hg)
      (rs2_is w 0x33 d f a b g (sym e) o hd hf ha hb hg) (funct7_is w 0x33 d f a b g (sym e) o hd hf ha hb hg) (pos 0) op (opcode_is w 0x33 d f a b g (sym e) o hd hf ha hb hg) r

  from_store : (op : StoreOp) (z : ℤ) → r_word 0x23 d f a b g ≡ w → store_op f ≡ Some op → extend (2 ^ 11) (d + g * 2 ^ 5) ≡ z → by_opcode (w % 2 ^ 7) w ≡ Some (Store op b a z)
  from_store op z e r x =
      let o : 0x23 < 128 = omega arith in
      store w d f a b g (rd_is w 0x23 d f a b g (sym e) o hd hf ha hb hg) (funct3_is w 0x23 d f a b g (sym e) o hd hf ha hb hg) (rs1_is w 0x23 d f a b g (sym e) o hd hf ha hb hg)
      (rs2_is w 0x23 d f a b g (sym e) o hd hf ha hb hg) (funct7_is w 0x23 d f a b g (sym e) o hd hf ha hb hg) z op (opcode_is w 0x23 d f a b g (sym e) o hd hf ha hb hg) r x

  from_branch : (op : BranchOp) (z : ℤ) → r_word 0x63 d f a b g ≡ w → branch_op f ≡ Some op → extend (2 ^ 12) (branch_bits d g) ≡ z → by_opcode (w % 2 ^ 7) w ≡ Some (Branch op a b z)
  from_branch op z e r x =
      let o : 0x63 < 128 = omega arith in
      branch w d f a b g (rd_is w 0x63 d f a b g (sym e) o hd hf ha hb hg) (funct3_is w 0x63 d f a b g (sym e) o hd hf ha hb hg) (rs1_is w 0x63 d f a b g (sym e) o hd hf ha hb hg)
      (rs2_is w 0x63 d f a b g (sym e) o hd hf ha hb hg) (funct7_is w 0x63 d f a b g (sym e) o hd hf ha hb hg) z op (opcode_is w 0x63 d f a b g (sym e) o hd hf ha hb hg) r x

-- a constant of 12 bits at the top
module _ (w d f a v : ℕ) (hd : d < 32) (hf : f < 8) (ha : a < 32) (hv : v < 2 ^ 12) where
  from_jalr : (z : ℤ) → i_word 0x67 d f a v ≡ w → f ≡ 0 → extend (2 ^ 11) v ≡ z → by_opcode (w % 2 ^ 7) w ≡ Some (Jalr d a z)
  from_jalr z e r x =
      let u : w / 2 ^ 20 ≡ v = omega arith in
      jalr w d f a (rs2_of w) (funct7_of w) (omega arith) (omega arith) (omega arith) refl refl z (omega arith) r (ap (extend (2 ^ 11)) u ∙ x)

  from_load : (op : LoadOp) (z : ℤ) → i_word 0x03 d f a v ≡ w → load_op f ≡ Some op → extend (2 ^ 11) v ≡ z → by_opcode (w % 2 ^ 7) w ≡ Some (Load op d a z)
  from_load op z e r x =
      let u : w / 2 ^ 20 ≡ v = omega arith in
      load w d f a (rs2_of w) (funct7_of w) (omega arith) (omega arith) (omega arith) refl refl z op (omega arith) r (ap (extend (2 ^ 11)) u ∙ x)

  from_short : (op : ImmOp) (z : ℤ) → i_word 0x13 d f a v ≡ w → ((x y : Option Instr) → (if f == 1 then x else if f == 5 then x else y) ≡ y) → short_op f ≡ Some op → extend (2 ^ 11) v ≡ z → by_opcode (w % 2 ^ 7) w ≡ Some (Imm op d a z)
  from_short op z e q r x =
      let o : w % 2 ^ 7 ≡ 0x13 = omega arith in
      let f-is : funct3_of w ≡ f = omega arith in
      let d-is : rd_of w ≡ d = omega arith in
      let a-is : rs1_of w ≡ a = omega arith in
      let u : w / 2 ^ 20 ≡ v = omega arith in
      let read : read_short w ≡ Some (Imm op d a z) = rw d-is (rw f-is (rw a-is (rw u (rw r (rw x refl))))) in
      ap (λ n. by_opcode n w) o ∙ ap (λ n. if n == 1 then read_shift w else if n == 5 then read_shift w else read_short w) f-is ∙ q (read_shift w) (read_short w) ∙ read

  from_shift : (op : ImmOp) (g : ℕ) (z : ℤ) → v < 32 → g < 128 → i_word 0x13 d f a (g * 2 ^ 5 + v) ≡ w → ((x y : Option Instr) → (if f == 1 then x else if f == 5 then x else y) ≡ x) → shift_op g f ≡ Some op → pos v ≡ z → by_opcode (w % 2 ^ 7) w ≡ Some (Imm op d a z)
  from_shift op g z small hg e q r x =
      let o : w % 2 ^ 7 ≡ 0x13 = omega arith in
      let f-is : funct3_of w ≡ f = omega arith in
      let d-is : rd_of w ≡ d = omega arith in
      let a-is : rs1_of w ≡ a = omega arith in
      let b-is : rs2_of w ≡ v = omega arith in
      let g-is : funct7_of w ≡ g = omega arith in
      let read : read_shift w ≡ Some (Imm op d a z) = rw d-is (rw f-is (rw a-is (rw b-is (rw g-is (rw r (rw x refl)))))) in
      ap (λ n. by_opcode n w) o ∙ ap (λ n. if n == 1 then read_shift w else if n == 5 then read_shift w else read_short w) f-is ∙ q (read_shift w) (read_short w) ∙ read

shift_low : (z : ℤ) → IsBetween (pos 0) (pos 31) z → (low_bits 12 z < 32) × (pos (low_bits 12 z) ≡ z)
shift_low (pos n) h = let e : n % 2 ^ 12 ≡ n = omega (arith, ints) in (omega (arith, ints), ap pos e)
shift_low (negsuc n) h = absurd (omega (arith, ints))

pub complete : (i : Instr) (w : ℕ) → IsSound i → word_of i ≡ w → w ≢ 0x00000073 → w ≢ 0x0ff0000f → by_opcode (w % 2 ^ 7) w ≡ Some i
complete (Lui rd upper) w s e n m = lui w rd upper e s.0 s.1
complete (Auipc rd upper) w s e n m = auipc w rd upper e s.0 s.1
complete (Jal rd z) w s e n m = jal w rd (low_bits 21 z) z e s.0 (omega arith) (omega arith) (extend_jump z s.1)
complete (Jalr rd rs1 z) w s e n m = from_jalr w rd 0 rs1 (low_bits 12 z) s.0 (omega arith) s.1 (omega arith) z e refl (extend_short z s.2)
complete (Branch op rs1 rs2 z) w s e n m =
    let c = branch_op_of op in
    from_branch w _ (branch_code op) rs1 rs2 _ (omega arith) c.0 s.0 s.1 (omega arith) op z e c.1 (ap (extend (2 ^ 12)) (branch_bits_is (low_bits 13 z) (omega arith) (omega arith)) ∙ extend_branch z s.2)
complete (Load op rd rs1 z) w s e n m =
    let c = load_op_of op in
    from_load w rd (load_code op) rs1 (low_bits 12 z) s.0 c.0 s.1 (omega arith) op z e c.1 (extend_short z s.2)
complete (Store op rs2 rs1 z) w s e n m =
    let c = store_op_of op in
    let u : low_bits 12 z % 2 ^ 5 + low_bits 12 z / 2 ^ 5 * 2 ^ 5 ≡ low_bits 12 z = omega arith in
    from_store w _ (store_code op) rs1 rs2 _ (omega arith) c.0 s.1 s.0 (omega arith) op z e c.1 (ap (extend (2 ^ 11)) u ∙ extend_short z s.2)
complete (Imm op rd rs1 z) w s e n m = imm op s.2 e
  where
    short : (op : ImmOp) → IsShort z → imm_code op < 8 → imm_upper op ≡ 0 → i_word 0x13 rd (imm_code op) rs1 (imm_upper op * 2 ^ 5 + low_bits 12 z) ≡ w → ((x y : Option Instr) → (if imm_code op == 1 then x else if imm_code op == 5 then x else y) ≡ y) → short_op (imm_code op) ≡ Some op → by_opcode (w % 2 ^ 7) w ≡ Some (Imm op rd rs1 z)
    short op h small u e q r = from_short w rd (imm_code op) rs1 (low_bits 12 z) s.0 small s.1 (omega arith) op z (omega arith) q r (extend_short z h)

    imm : (op : ImmOp) → IsImmediate op z → i_word 0x13 rd (imm_code op) rs1 (imm_upper op * 2 ^ 5 + low_bits 12 z) ≡ w → by_opcode (w % 2 ^ 7) w ≡ Some (Imm op rd rs1 z)
    imm Addi h e = short Addi h (omega arith) refl e (λ x y. refl) refl
    imm Slti h e = short Slti h (omega arith) refl e (λ x y. refl) refl
    imm Sltiu h e = short Sltiu h (omega arith) refl e (λ x y. refl) refl
    imm Xori h e = short Xori h (omega arith) refl e (λ x y. refl) refl
    imm Ori h e = short Ori h (omega arith) refl e (λ x y. refl) refl
    imm Andi h e = short Andi h (omega arith) refl e (λ x y. refl) refl
    imm Slli h e = let l = shift_low z h in from_shift w rd 1 rs1 (low_bits 12 z) s.0 (omega arith) s.1 (omega arith) Slli 0 z l.0 (omega arith) e (λ x y. refl) refl l.1
    imm Srli h e = let l = shift_low z h in from_shift w rd 5 rs1 (low_bits 12 z) s.0 (omega arith) s.1 (omega arith) Srli 0 z l.0 (omega arith) e (λ x y. refl) refl l.1
    imm Srai h e = let l = shift_low z h in from_shift w rd 5 rs1 (low_bits 12 z) s.0 (omega arith) s.1 (omega arith) Srai 0x20 z l.0 (omega arith) e (λ x y. refl) refl l.1
complete (Reg op rd rs1 rs2) w s e n m =
    let c = reg_op_of op in
    from_reg w rd (reg_code op) rs1 rs2 (reg_upper op) s.0 c.0 s.1 s.2 c.1 op e c.2
complete Ecall w s e n m = absurd (n (sym e))
complete Fence w s e n m = absurd (m (sym e))
