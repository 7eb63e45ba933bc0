-- The words of operators: they are on registers alone and write a0; and their numbers have 32 bits.
use Rattle.std.proofs.Common.{◌≡◌, ℕ, zero, suc, ◌+◌, ◌-◌, ◌*◌, ◌%◌, ◌^◌, ◌<◌, ◌≤◌, ◌==◌, not, Bool, true, false, if◌then◌else◌, ℤ, pos, negsuc, nat_lt, List, [], ◌∷◌, Option, Some, None, refl, sym, ap, subst, ◌∙◌, arith}
use Rattle.std.proofs.lemmas.Nat.{and_le_l, or_of_32, xor_of_32}
use Rattle.std.specs.Prelude.{bit_and, bit_or, bit_xor, int_le, int_lt, option_map}
use Rattle.std.specs.Int.{w32, cast_signed}
use Rattle.sc_base.specs.declared.integer.Int.{Int}
use Rattle.sc_base.specs.declared.memory.Word.{Word}
use Rattle.sc_base.specs.declared.operator.Op.{Op}
use Rattle.sc_base.specs.declared.operator.Op.TheVariants as op
use Rattle.sc_isa.specs.declared.instruction.Instr.TheVariants.{Imm}
use Rattle.sc_isa.specs.declared.instruction.ImmOp.{ImmOp}
use Rattle.sc_isa.specs.declared.instruction.ImmOp.TheVariants as imm
use Rattle.sc_isa.specs.declared.instruction.RegOp.{RegOp}
use Rattle.sc_isa.specs.declared.instruction.RegOp.TheVariants as reg
use Rattle.sc_ops.specs.Numbers.{bits_of as bits_in}
use Rattle.sc_ops.specs.Operators.{exact, operand, shifted_down, truth_of, value_of}
use Rattle.sc_gen_code.specs.declared.symbolic.Symbolic.{Symbolic}
use Rattle.sc_gen_code.specs.declared.symbolic.Symbolic.TheVariants.{Plain}
use Rattle.sc_gen_code.specs.Code.{Code, apply, shift_of}
use Rattle.sc_gen_code.specs.Operators.{immediate, imm_by_sign, is_short, operate, short, shifted}
use Rattle.sc_compiled_values.specs.Straight.{Words, after, with}
use Rattle.sc_compiled_expressions.specs.Straights.{AreStraight, IsStraightWord}
use Rattle.sc_compiled_expressions.proofs.Numbers.{stays}

-- ---- operators between registers

module _ (x y : ℕ) (small_x : x < 32) (small_y : y < 32) where
  ten : 10 < 32
  ten = omega arith

  pub operate_straight : (o : Op) (u : Bool) → AreStraight (operate o u x y)
  operate_straight op.Add u = ((ten, small_x, small_y), tt)
  operate_straight op.Sub u = ((ten, small_x, small_y), tt)
  operate_straight op.Mul u = ((ten, small_x, small_y), tt)
  operate_straight op.Div u = ((ten, small_x, small_y), tt)
  operate_straight op.Rem u = ((ten, small_x, small_y), tt)
  operate_straight op.Shl u = ((ten, small_x, small_y), tt)
  operate_straight op.Shr u = ((ten, small_x, small_y), tt)
  operate_straight op.And u = ((ten, small_x, small_y), tt)
  operate_straight op.Or u = ((ten, small_x, small_y), tt)
  operate_straight op.Xor u = ((ten, small_x, small_y), tt)
  operate_straight op.Lt u = ((ten, small_x, small_y), tt)
  operate_straight op.Gt u = ((ten, small_y, small_x), tt)
  operate_straight op.Le u = ((ten, small_y, small_x), ((ten, ten), tt))
  operate_straight op.Ge u = ((ten, small_x, small_y), ((ten, ten), tt))
  operate_straight op.Eq u = ((ten, small_x, small_y), ((ten, ten), tt))
  operate_straight op.Ne u = ((ten, small_x, small_y), ((ten, omega arith, ten), tt))
  operate_straight op.Neg u = tt
  operate_straight op.Not u = tt
  operate_straight op.Truth u = tt
  operate_straight op.Inc u = tt
  operate_straight op.Dec u = tt

-- ---- one instruction with a constant

pub record WritesA0 (i : Symbolic) : Type 0 where
  pub straight : AreStraight (i ∷ [])
  pub keeps : (r : Words) (j : ℕ) → (j == 10) ≡ false → after (i ∷ []) r j ≡ r j

imm_writes : (o : ImmOp) (x : ℕ) (z : ℤ) → x < 32 → WritesA0 (Plain (Imm o 10 x z))
imm_writes o x z lt = record { straight = ((omega arith, lt), tt); keeps = λ r j e. stays r _ j e }

reg_writes : (x : ℕ) → x < 32 → WritesA0 (apply reg.Sltu 10 0 x)
reg_writes x lt = record { straight = ((omega arith, omega arith, lt), tt); keeps = λ r j e. stays r _ j e }

one_of : (i j : Symbolic) → WritesA0 i → Some i ≡ Some j → WritesA0 j
one_of i j w e = subst WritesA0 (same e) w
  where
    same : Some i ≡ Some j → i ≡ j
    same e = cc (e)

by_test : (b : Bool) (i j : Symbolic) → WritesA0 i → (if b then Some i else None) ≡ Some j → WritesA0 j
by_test true i j w e = one_of i j w e
by_test false i j w e = absurd (cc (e))

by_shift : (o : Option ℤ) (x : ℕ) (j : Symbolic) → x < 32 → option_map (λ k. Plain (Imm imm.Slli 10 x k)) o ≡ Some j → WritesA0 j
by_shift None x j lt e = absurd (cc (e))
by_shift (Some k) x j lt e = one_of (Plain (Imm imm.Slli 10 x k)) j (imm_writes imm.Slli x k lt) e

pub immediate_writes : (o : Op) (u : Bool) (x n : ℕ) (i : Symbolic) → x < 32 → immediate o u x n ≡ Some i → WritesA0 i
immediate_writes op.Add u x n i lt e = by_test (is_short (cast_signed w32 n)) _ i (imm_writes imm.Addi x (cast_signed w32 n) lt) e
immediate_writes op.Sub u x n i lt e = by_test (is_short (cast_signed w32 ((0 + (2 ^ 32 - n)) % 2 ^ 32))) _ i (imm_writes imm.Addi x (cast_signed w32 ((0 + (2 ^ 32 - n)) % 2 ^ 32)) lt) e
immediate_writes op.And u x n i lt e = by_test (is_short (cast_signed w32 n)) _ i (imm_writes imm.Andi x (cast_signed w32 n) lt) e
immediate_writes op.Or u x n i lt e = by_test (is_short (cast_signed w32 n)) _ i (imm_writes imm.Ori x (cast_signed w32 n) lt) e
immediate_writes op.Xor u x n i lt e = by_test (is_short (cast_signed w32 n)) _ i (imm_writes imm.Xori x (cast_signed w32 n) lt) e
immediate_writes op.Lt u x n i lt e = by_test (is_short (cast_signed w32 n)) _ i (imm_writes (imm_by_sign u imm.Sltiu imm.Slti) x (cast_signed w32 n) lt) e
immediate_writes op.Shl u x n i lt e = by_test (nat_lt n 32) _ i (imm_writes imm.Slli x (pos n) lt) e
immediate_writes op.Shr u x n i lt e = by_test (nat_lt n 32) _ i (imm_writes (imm_by_sign u imm.Srli imm.Srai) x (pos n) lt) e
immediate_writes op.Mul u x n i lt e = by_shift (shift_of n) x i lt e
immediate_writes op.Eq u x n i lt e = by_test (n == 0) _ i (imm_writes imm.Sltiu x (pos 1) lt) e
immediate_writes op.Ne u x n i lt e = by_test (n == 0) _ i (reg_writes x lt) e
immediate_writes op.Div u x n i lt e = absurd (cc (e))
immediate_writes op.Rem u x n i lt e = absurd (cc (e))
immediate_writes op.Gt u x n i lt e = absurd (cc (e))
immediate_writes op.Le u x n i lt e = absurd (cc (e))
immediate_writes op.Ge u x n i lt e = absurd (cc (e))
immediate_writes op.Neg u x n i lt e = absurd (cc (e))
immediate_writes op.Not u x n i lt e = absurd (cc (e))
immediate_writes op.Truth u x n i lt e = absurd (cc (e))
immediate_writes op.Inc u x n i lt e = absurd (cc (e))
immediate_writes op.Dec u x n i lt e = absurd (cc (e))

-- ---- numbers of 32 bits

bits_below : (z : ℤ) → bits_in z < 4294967296
bits_below (pos n) = omega arith
bits_below (negsuc n) = omega arith

truth_below : (b : Bool) → truth_of b < 4294967296
truth_below true = omega arith
truth_below false = omega arith

and_below : (n m : ℕ) → n < 4294967296 → bit_and n m < 4294967296
and_below n m lt = let le = and_le_l n m in omega (arith, lt, le)

shifted_below : (n : ℕ) → n % 4294967296 < 4294967296
shifted_below n = omega arith

pub value_below : (o : Op) (k : Int) (n m : ℕ) → n < 2 ^ 32 → m < 2 ^ 32 → value_of o k n m < 2 ^ 32
value_below op.Add k n m wide broad = bits_below (exact op.Add (operand k n) (operand k m))
value_below op.Sub k n m wide broad = bits_below (exact op.Sub (operand k n) (operand k m))
value_below op.Mul k n m wide broad = bits_below (exact op.Mul (operand k n) (operand k m))
value_below op.Div k n m wide broad = bits_below (exact op.Div (operand k n) (operand k m))
value_below op.Rem k n m wide broad = bits_below (exact op.Rem (operand k n) (operand k m))
value_below op.Neg k n m wide broad = bits_below (exact op.Neg (operand k n) (operand k m))
value_below op.Inc k n m wide broad = bits_below (exact op.Inc (operand k n) (operand k m))
value_below op.Dec k n m wide broad = bits_below (exact op.Dec (operand k n) (operand k m))
value_below op.Shl k n m wide broad = shifted_below (n * 2 ^ m)
value_below op.Shr k n m wide broad = bits_below (shifted_down (operand k n) m)
value_below op.And k n m wide broad = and_below n m wide
value_below op.Or k n m wide broad = or_of_32 n m wide broad
value_below op.Xor k n m wide broad = xor_of_32 n m wide broad
value_below op.Not k n m wide broad = omega arith
value_below op.Lt k n m wide broad = truth_below (int_lt (operand k n) (operand k m))
value_below op.Gt k n m wide broad = truth_below (int_lt (operand k m) (operand k n))
value_below op.Le k n m wide broad = truth_below (int_le (operand k n) (operand k m))
value_below op.Ge k n m wide broad = truth_below (int_le (operand k m) (operand k n))
value_below op.Eq k n m wide broad = truth_below (n == m)
value_below op.Ne k n m wide broad = truth_below (not (n == m))
value_below op.Truth k n m wide broad = truth_below (not (n == 0))
