-- A word that is read as an instruction is the word of that instruction, which is sound.
use Rattle.std.proofs.Common.{◌≡◌, ℕ, zero, suc, ◌+◌, ◌*◌, ◌/◌, ◌%◌, ◌<◌, ◌^◌, ◌==◌, if◌then◌else◌, Bool, true, false, ℤ, pos, Option, Some, None, refl, sym, ap, ◌∙◌, arith, rules}
use Rattle.std.proofs.lemmas.Bool.{eqb-true}
use Rattle.std.specs.Prelude.{IfSome}
use Rattle.std.specs.Option.{option_map}
use Rattle.std.proofs.lemmas.Int.{ints}
use Rattle.sc_isa.specs.declared.instruction.Instr.{Instr}
use Rattle.sc_isa.specs.declared.instruction.Instr.TheVariants.{Lui, Auipc, Jal, Branch, Load, Store, Imm, Reg}
use Rattle.sc_isa.specs.declared.instruction.ImmOp.{ImmOp}
use Rattle.sc_isa.specs.declared.instruction.ImmOp.TheVariants.{Slli, Srli, Srai}
use Rattle.sc_isa.specs.declared.instruction.RegOp.{RegOp}
use Rattle.sc_isa.specs.Table.{word_of, IsSound, IsShort, IsBetween, IsImmediate, i_word, s_word, b_word, u_word, j_word, low_bits, branch_code, load_code, store_code, imm_code, imm_upper, reg_code, reg_upper}
use Rattle.sc_isa.specs.Reading.{rd_of, funct3_of, rs1_of, rs2_of, funct7_of, extend, branch_bits, jump_bits, branch_op, load_op, store_op, shift_op, short_op, base_op, other_op, multiply_op, reg_op, read_jalr, read_branch, read_load, read_store, read_shift, read_short, read_imm, read_reg, by_opcode}
use Rattle.sc_isa.proofs.Fields.{rebuilt, branch_low, branch_high, jump_upper, short_fits, branch_fits, jump_fits, low_short, low_branch, low_jump, even_branch, even_jump}

-- a sound instruction with this word
abbrev IsOf : ℕ → Instr → Type 0
IsOf w i = IsSound i × (word_of i ≡ w)

-- what an operation that was found makes
mapped : {A : Type 0} (o : Option A) (f : A → Instr) (Q : A → Type 0) (P : Instr → Type 0) → IfSome o Q → ((x : A) → Q x → P (f x)) → IfSome (option_map f o) P
mapped None f Q P h g = h
mapped (Some x) f Q P h g = g x h

chosen : {A : Type 0} (b : Bool) (x y : Option A) (P : A → Type 0) → (b ≡ true → IfSome x P) → (b ≡ false → IfSome y P) → IfSome (if b then x else y) P
chosen true x y P f g = f refl
chosen false x y P f g = g refl

-- the operation of a code has that code
branch_op_is : (n : ℕ) → IfSome (branch_op n) (λ op. branch_code op ≡ n)
branch_op_is zero = refl
branch_op_is (suc zero) = refl
branch_op_is (suc (suc zero)) = search rules
branch_op_is (suc (suc (suc zero))) = search rules
branch_op_is (suc (suc (suc (suc zero)))) = refl
branch_op_is (suc (suc (suc (suc (suc zero))))) = refl
branch_op_is (suc (suc (suc (suc (suc (suc zero)))))) = refl
branch_op_is (suc (suc (suc (suc (suc (suc (suc zero))))))) = refl
branch_op_is (suc (suc (suc (suc (suc (suc (suc (suc n)))))))) = search rules

load_op_is : (n : ℕ) → IfSome (load_op n) (λ op. load_code op ≡ n)
load_op_is zero = refl
load_op_is (suc zero) = refl
load_op_is (suc (suc zero)) = refl
load_op_is (suc (suc (suc zero))) = search rules
load_op_is (suc (suc (suc (suc zero)))) = refl
load_op_is (suc (suc (suc (suc (suc zero))))) = refl
load_op_is (suc (suc (suc (suc (suc (suc n)))))) = search rules

store_op_is : (n : ℕ) → IfSome (store_op n) (λ op. store_code op ≡ n)
store_op_is zero = refl
store_op_is (suc zero) = refl
store_op_is (suc (suc zero)) = refl
store_op_is (suc (suc (suc n))) = search rules

base_op_is : (n : ℕ) → IfSome (base_op n) (λ op. (reg_code op ≡ n) × (reg_upper op ≡ 0))
base_op_is zero = (refl, refl)
base_op_is (suc zero) = (refl, refl)
base_op_is (suc (suc zero)) = (refl, refl)
base_op_is (suc (suc (suc zero))) = (refl, refl)
base_op_is (suc (suc (suc (suc zero)))) = (refl, refl)
base_op_is (suc (suc (suc (suc (suc zero))))) = (refl, refl)
base_op_is (suc (suc (suc (suc (suc (suc zero)))))) = (refl, refl)
base_op_is (suc (suc (suc (suc (suc (suc (suc zero))))))) = (refl, refl)
base_op_is (suc (suc (suc (suc (suc (suc (suc (suc n)))))))) = search rules

other_op_is : (n : ℕ) → IfSome (other_op n) (λ op. (reg_code op ≡ n) × (reg_upper op ≡ 0x20))
other_op_is zero = (refl, refl)
other_op_is (suc zero) = search rules
other_op_is (suc (suc zero)) = search rules
other_op_is (suc (suc (suc zero))) = search rules
other_op_is (suc (suc (suc (suc zero)))) = search rules
other_op_is (suc (suc (suc (suc (suc zero))))) = (refl, refl)
other_op_is (suc (suc (suc (suc (suc (suc n)))))) = search rules

multiply_op_is : (n : ℕ) → IfSome (multiply_op n) (λ op. (reg_code op ≡ n) × (reg_upper op ≡ 1))
multiply_op_is zero = (refl, refl)
multiply_op_is (suc zero) = (refl, refl)
multiply_op_is (suc (suc zero)) = (refl, refl)
multiply_op_is (suc (suc (suc zero))) = (refl, refl)
multiply_op_is (suc (suc (suc (suc zero)))) = (refl, refl)
multiply_op_is (suc (suc (suc (suc (suc zero))))) = (refl, refl)
multiply_op_is (suc (suc (suc (suc (suc (suc zero)))))) = (refl, refl)
multiply_op_is (suc (suc (suc (suc (suc (suc (suc zero))))))) = (refl, refl)
multiply_op_is (suc (suc (suc (suc (suc (suc (suc (suc n)))))))) = search rules

reg_op_is : (g n : ℕ) → IfSome (reg_op g n) (λ op. (reg_code op ≡ n) × (reg_upper op ≡ g))
reg_op_is g n =
    let P : ℕ → RegOp → Type 0 = λ k op. (reg_code op ≡ n) × (reg_upper op ≡ k) in
    let at : (o : Option RegOp) (k : ℕ) → (g == k) ≡ true → IfSome o (P k) → IfSome o (P g) = λ o k t h. rw (eqb-true g k t) h in
    chosen (g == 0) _ _ (P g) (λ t. at _ 0 t (base_op_is n)) (λ _.
    chosen (g == 0x20) _ _ (P g) (λ t. at _ 0x20 t (other_op_is n)) (λ _.
    chosen (g == 1) _ _ (P g) (λ t. at _ 1 t (multiply_op_is n)) (λ _. search rules)))

-- what an operation with a constant has to do with its codes, and which constants it takes
abbrev IsImmOf : (funct7 n : ℕ) (IsTaken : ℤ → Type 0) → ImmOp → Type 0
IsImmOf funct7 n IsTaken op = (imm_code op ≡ n) × (imm_upper op ≡ funct7) × ((z : ℤ) → IsTaken z → IsImmediate op z)

short_op_is : (n : ℕ) → IfSome (short_op n) (IsImmOf 0 n IsShort)
short_op_is zero = (refl, refl, λ z h. h)
short_op_is (suc zero) = search rules
short_op_is (suc (suc zero)) = (refl, refl, λ z h. h)
short_op_is (suc (suc (suc zero))) = (refl, refl, λ z h. h)
short_op_is (suc (suc (suc (suc zero)))) = (refl, refl, λ z h. h)
short_op_is (suc (suc (suc (suc (suc zero))))) = search rules
short_op_is (suc (suc (suc (suc (suc (suc zero)))))) = (refl, refl, λ z h. h)
short_op_is (suc (suc (suc (suc (suc (suc (suc zero))))))) = (refl, refl, λ z h. h)
short_op_is (suc (suc (suc (suc (suc (suc (suc (suc n)))))))) = search rules

shift_left_is : (g : ℕ) → IfSome (shift_op g 1) (IsImmOf g 1 (IsBetween (pos 0) (pos 31)))
shift_left_is g =
    let P = IsImmOf g 1 (IsBetween (pos 0) (pos 31)) in
    chosen (g == 0) (Some Slli) None P (λ t. (refl, sym (eqb-true g 0 t), λ z h. h)) (λ _. search rules)

shift_right_is : (g : ℕ) → IfSome (shift_op g 5) (IsImmOf g 5 (IsBetween (pos 0) (pos 31)))
shift_right_is g =
    let P = IsImmOf g 5 (IsBetween (pos 0) (pos 31)) in
    chosen (g == 0) (Some Srli) _ P (λ t. (refl, sym (eqb-true g 0 t), λ z h. h)) (λ _.
    chosen (g == 0x20) (Some Srai) None P (λ t. (refl, sym (eqb-true g 0x20 t), λ z h. h)) (λ _. search rules))

module _ (w : ℕ) (h : w < 2 ^ 32) where
  upper_small : w / 2 ^ 12 < 2 ^ 20
  upper_small = omega arith

  short_small : w / 2 ^ 20 < 2 ^ 12
  short_small = omega arith

  rd_small : rd_of w < 32
  rd_small = omega arith

  rs1_small : rs1_of w < 32
  rs1_small = omega arith

  rs2_small : rs2_of w < 32
  rs2_small = omega arith

  funct7_small : funct7_of w < 128
  funct7_small = omega arith

  lui : w % 2 ^ 7 ≡ 0x37 → IsOf w (Lui (rd_of w) (w / 2 ^ 12))
  lui o = ((rd_small, upper_small), omega arith)

  auipc : w % 2 ^ 7 ≡ 0x17 → IsOf w (Auipc (rd_of w) (w / 2 ^ 12))
  auipc o = ((rd_small, upper_small), omega arith)

  jal : w % 2 ^ 7 ≡ 0x6f → IsOf w (Jal (rd_of w) (extend (2 ^ 20) (jump_bits (w / 2 ^ 12))))
  jal o =
      let small : jump_bits (w / 2 ^ 12) < 2 ^ 21 = omega arith in
      let even : jump_bits (w / 2 ^ 12) % 2 ≡ 0 = omega arith in
      let low = low_jump (jump_bits (w / 2 ^ 12)) small in
      let back : u_word 0x6f (rd_of w) (w / 2 ^ 12) ≡ w = omega arith in
      ((rd_small, jump_fits _ small even, even_jump (extend (2 ^ 20) (jump_bits (w / 2 ^ 12))) _ low even), ap (j_word 0x6f (rd_of w)) low ∙ ap (u_word 0x6f (rd_of w)) (jump_upper (w / 2 ^ 12) upper_small) ∙ back)

  jalr : w % 2 ^ 7 ≡ 0x67 → IfSome (read_jalr w) (IsOf w)
  jalr o = chosen (funct3_of w == 0) _ None (IsOf w)
      (λ t. let e = eqb-true (funct3_of w) 0 t in
      let back : i_word 0x67 (rd_of w) 0 (rs1_of w) (w / 2 ^ 20) ≡ w = omega arith in
      ((rd_small, rs1_small, short_fits _ short_small), ap (i_word 0x67 (rd_of w) 0 (rs1_of w)) (low_short _ short_small) ∙ back))
      (λ _. search rules)

  load : w % 2 ^ 7 ≡ 0x03 → IfSome (read_load w) (IsOf w)
  load o = mapped (load_op (funct3_of w)) (λ op. Load op (rd_of w) (rs1_of w) (extend (2 ^ 11) (w / 2 ^ 20))) (λ op. load_code op ≡ funct3_of w) (IsOf w) (load_op_is (funct3_of w))
      (λ op c. let back : i_word 0x03 (rd_of w) (load_code op) (rs1_of w) (w / 2 ^ 20) ≡ w = omega arith in
      ((rd_small, rs1_small, short_fits _ short_small), ap (i_word 0x03 (rd_of w) (load_code op) (rs1_of w)) (low_short _ short_small) ∙ back))

  store : w % 2 ^ 7 ≡ 0x23 → IfSome (read_store w) (IsOf w)
  store o =
      let small : rd_of w + funct7_of w * 2 ^ 5 < 2 ^ 12 = omega arith in
      let low : (rd_of w + funct7_of w * 2 ^ 5) % 2 ^ 5 ≡ rd_of w = omega arith in
      let high : (rd_of w + funct7_of w * 2 ^ 5) / 2 ^ 5 ≡ funct7_of w = omega arith in
      mapped (store_op (funct3_of w)) (λ op. Store op (rs2_of w) (rs1_of w) (extend (2 ^ 11) (rd_of w + funct7_of w * 2 ^ 5))) (λ op. store_code op ≡ funct3_of w) (IsOf w) (store_op_is (funct3_of w))
      (λ op c. ((rs2_small, rs1_small, short_fits _ small), ap (s_word 0x23 (store_code op) (rs1_of w) (rs2_of w)) (low_short _ small) ∙ rebuilt w 0x23 _ (store_code op) _ _ _ h o (sym low) (sym c) refl refl (sym high)))

  branch : w % 2 ^ 7 ≡ 0x63 → IfSome (read_branch w) (IsOf w)
  branch o =
      let small : branch_bits (rd_of w) (funct7_of w) < 2 ^ 13 = omega arith in
      let even : branch_bits (rd_of w) (funct7_of w) % 2 ≡ 0 = omega arith in
      let bits = low_branch _ small in
      let low = branch_low (rd_of w) (funct7_of w) rd_small funct7_small in
      let high = branch_high (rd_of w) (funct7_of w) rd_small funct7_small in
      mapped (branch_op (funct3_of w)) (λ op. Branch op (rs1_of w) (rs2_of w) (extend (2 ^ 12) (branch_bits (rd_of w) (funct7_of w)))) (λ op. branch_code op ≡ funct3_of w) (IsOf w) (branch_op_is (funct3_of w))
      (λ op c. (
        (rs1_small, rs2_small, branch_fits _ small even, even_branch (extend (2 ^ 12) (branch_bits (rd_of w) (funct7_of w))) _ bits even),
        ap (b_word 0x63 (branch_code op) (rs1_of w) (rs2_of w)) bits ∙ rebuilt w 0x63 _ (branch_code op) _ _ _ h o (sym low) (sym c) refl refl (sym high),
      ))

  reg : w % 2 ^ 7 ≡ 0x33 → IfSome (read_reg w) (IsOf w)
  reg o = mapped (reg_op (funct7_of w) (funct3_of w)) (λ op. Reg op (rd_of w) (rs1_of w) (rs2_of w)) (λ op. (reg_code op ≡ funct3_of w) × (reg_upper op ≡ funct7_of w)) (IsOf w) (reg_op_is (funct7_of w) (funct3_of w))
      (λ op c. ((rd_small, rs1_small, rs2_small), rebuilt w 0x33 _ (reg_code op) _ _ (reg_upper op) h o refl (sym c.0) refl refl (sym c.1)))

  short : w % 2 ^ 7 ≡ 0x13 → IfSome (read_short w) (IsOf w)
  short o = mapped (short_op (funct3_of w)) (λ op. Imm op (rd_of w) (rs1_of w) (extend (2 ^ 11) (w / 2 ^ 20))) (IsImmOf 0 (funct3_of w) IsShort) (IsOf w) (short_op_is (funct3_of w))
      (λ op c. let back : i_word 0x13 (rd_of w) (imm_code op) (rs1_of w) (imm_upper op * 2 ^ 5 + w / 2 ^ 20) ≡ w = let n = c.0 in let u = c.1 in omega arith in
      ((rd_small, rs1_small, c.2 _ (short_fits _ short_small)), ap (λ k. i_word 0x13 (rd_of w) (imm_code op) (rs1_of w) (imm_upper op * 2 ^ 5 + k)) (low_short _ short_small) ∙ back))

  shift : w % 2 ^ 7 ≡ 0x13 → IfSome (shift_op (funct7_of w) (funct3_of w)) (IsImmOf (funct7_of w) (funct3_of w) (IsBetween (pos 0) (pos 31))) → IfSome (read_shift w) (IsOf w)
  shift o found = mapped (shift_op (funct7_of w) (funct3_of w)) (λ op. Imm op (rd_of w) (rs1_of w) (pos (rs2_of w))) (IsImmOf (funct7_of w) (funct3_of w) (IsBetween (pos 0) (pos 31))) (IsOf w) found
      (λ op c. let low : low_bits 12 (pos (rs2_of w)) ≡ rs2_of w = omega (arith, ints) in
      let between : IsBetween (pos 0) (pos 31) (pos (rs2_of w)) = (omega (arith, ints), omega (arith, ints)) in
      let back : i_word 0x13 (rd_of w) (imm_code op) (rs1_of w) (imm_upper op * 2 ^ 5 + rs2_of w) ≡ w = let n = c.0 in let u = c.1 in omega arith in
      ((rd_small, rs1_small, c.2 _ between), ap (λ k. i_word 0x13 (rd_of w) (imm_code op) (rs1_of w) (imm_upper op * 2 ^ 5 + k)) low ∙ back))

  imm : w % 2 ^ 7 ≡ 0x13 → IfSome (read_imm w) (IsOf w)
  imm o =
      chosen (funct3_of w == 1) _ _ (IsOf w) (λ t. shift o (rw (eqb-true (funct3_of w) 1 t) (shift_left_is (funct7_of w)))) (λ _.
      chosen (funct3_of w == 5) _ _ (IsOf w) (λ t. shift o (rw (eqb-true (funct3_of w) 5 t) (shift_right_is (funct7_of w)))) (λ _. short o))

  pub sound : IfSome (by_opcode (w % 2 ^ 7) w) (IsOf w)
  sound =
      let is : (k : ℕ) → (w % 2 ^ 7 == k) ≡ true → w % 2 ^ 7 ≡ k = λ k t. eqb-true (w % 2 ^ 7) k t in
      chosen (w % 2 ^ 7 == 0x37) _ _ (IsOf w) (λ t. lui (is 0x37 t)) (λ _.
      chosen (w % 2 ^ 7 == 0x17) _ _ (IsOf w) (λ t. auipc (is 0x17 t)) (λ _.
      chosen (w % 2 ^ 7 == 0x6f) _ _ (IsOf w) (λ t. jal (is 0x6f t)) (λ _.
      chosen (w % 2 ^ 7 == 0x67) _ _ (IsOf w) (λ t. jalr (is 0x67 t)) (λ _.
      chosen (w % 2 ^ 7 == 0x63) _ _ (IsOf w) (λ t. branch (is 0x63 t)) (λ _.
      chosen (w % 2 ^ 7 == 0x03) _ _ (IsOf w) (λ t. load (is 0x03 t)) (λ _.
      chosen (w % 2 ^ 7 == 0x23) _ _ (IsOf w) (λ t. store (is 0x23 t)) (λ _.
      chosen (w % 2 ^ 7 == 0x13) _ _ (IsOf w) (λ t. imm (is 0x13 t)) (λ _.
      chosen (w % 2 ^ 7 == 0x33) _ _ (IsOf w) (λ t. reg (is 0x33 t)) (λ _. search rules)))))))))
