-- Operators with a constant, with one operand, and as branches.
use Rattle.std.proofs.Common.{◌≡◌, ℕ, zero, ◌+◌, ◌-◌, ◌*◌, ◌%◌, ◌^◌, ◌<◌, ◌==◌, Bool, true, false, not, if◌then◌else◌, nat_lt, nat_le, ℤ, pos, neg_ℤ, int_lt, int_le, [], ◌∷◌, Option, Some, None, refl, sym, ap, ap₂, ◌∙◌, arith}
use Rattle.std.proofs.lemmas.Bool.Decides.{nat_tests}
use Rattle.std.specs.Option.{option_map}
use Rattle.std.specs.Int.{w32, cast_signed}
use Rattle.std.proofs.lemmas.Int.{of_z-to_z}
use Rattle.std.proofs.Math.Nat.{mod-eq_of_lt}
use Rattle.sc_base.specs.declared.integer.Int.{Int}
use Rattle.sc_base.specs.declared.memory.Word.{Word}
use Rattle.sc_base.specs.declared.operator.Op.{Op}
use Rattle.sc_base.specs.declared.operator.Op.TheVariants as op
use Rattle.sc_isa.specs.declared.instruction.Instr.TheVariants.{Imm, Reg}
use Rattle.sc_isa.specs.declared.instruction.RegOp.TheVariants as reg
use Rattle.sc_isa.specs.declared.instruction.ImmOp.{ImmOp}
use Rattle.sc_isa.specs.declared.instruction.ImmOp.TheVariants as imm
use Rattle.sc_isa.specs.declared.instruction.BranchOp.TheVariants as jump
use Rattle.sc_core.specs.declared.expression.UnaryOperator.{UnaryOperator}
use Rattle.sc_core.specs.declared.expression.UnaryOperator.TheVariants as unary
use Rattle.sc_ops.specs.Numbers.{bits_of as bits_in}
use Rattle.sc_ops.specs.Operators.{truth_of, value_of, rule_of, operand, shifted_down}
use Rattle.sc_emu.specs.Operations.{plain, of_two, with_constant, bits_of, is_taken, shifted_left}
use Rattle.sc_gen_code.specs.declared.symbolic.Symbolic.{Symbolic}
use Rattle.sc_gen_code.specs.declared.symbolic.Symbolic.TheVariants.{Plain}
use Rattle.sc_gen_code.specs.Code.{a0, shift_of}
use Rattle.sc_gen_code.specs.Operators.{immediate, short, shifted, imm_by_sign, is_short, unary_of, is_unsigned, branch, branch_by_sign, is_comparison}
use Rattle.sc_compiled_values.specs.Straight.{Words, after}
use Rattle.sc_compiled_values.specs.Operators.{Operands, single, takes, told}
use Rattle.sc_compiled_values.proofs.Numbers.{number, sum_is, difference_is, left_is, right_signed, right_unsigned, truth_is, less_signed, less_unsigned, not_lt, zero_is, true_is, negative_is, complement_is, negated_constant}
use Rattle.sc_compiled_values.proofs.Operating.{operand_is, unbroken, exact_is, numbers_are, product_value}

some_if : {A : Type 0} (b : Bool) (x y : A) → (if b then Some x else None) ≡ Some y → x ≡ y
some_if true x y e = cc (e)
some_if false x y e = absurd (cc (e))

-- ---- a constant of 12 bits
short_is : (o : ImmOp) (r : Words) (x c : ℕ) (i : Symbolic) → c < 4294967296 → short o x (cast_signed w32 c) ≡ Some i → after (i ∷ []) r a0 ≡ with_constant o (r x) c
short_is o r x c i lt e =
    ap (λ s. after (s ∷ []) r a0) (sym (some_if (is_short (cast_signed w32 c)) (Plain (Imm o a0 x (cast_signed w32 c))) i e)) ∙ ap (with_constant o (r x)) (of_z-to_z w32 c lt)

shifted_is : (o : ImmOp) (r : Words) (x c : ℕ) (i : Symbolic) → shifted o x c ≡ Some i → after (i ∷ []) r a0 ≡ with_constant o (r x) c
shifted_is o r x c i e = ap (λ s. after (s ∷ []) r a0) (sym (some_if (nat_lt c 32) (Plain (Imm o a0 x (pos c))) i e))

-- ---- powers of two
pub record Power (n : ℕ) (k : ℤ) : Type 0 where
  pub places : ℕ
  pub is : k ≡ pos places
  pub power : n ≡ 2 ^ places
  pub few : places < 32

equals : (n m : ℕ) → (n == m) ≡ true → n ≡ m
equals n m e = grind (arith, nat_tests, e)

step_by : (b : Bool) (n m j : ℕ) (k : ℤ) (rest : Option ℤ) → (b ≡ true → n ≡ m) → m ≡ 2 ^ j → j < 32 → (if b then Some (pos j) else rest) ≡ Some k → (rest ≡ Some k → Power n k) → Power n k
step_by true n m j k rest q p lt e f = record { places = j; is = sym (cc (e)); power = q refl ∙ p; few = lt }
step_by false n m j k rest q p lt e f = f e

step : (n m j : ℕ) (k : ℤ) (rest : Option ℤ) → m ≡ 2 ^ j → j < 32 → (if n == m then Some (pos j) else rest) ≡ Some k → (rest ≡ Some k → Power n k) → Power n k
step n m j k rest p lt e f = step_by (n == m) n m j k rest (equals n m) p lt e f

pub shift_power : (n : ℕ) (k : ℤ) → shift_of n ≡ Some k → Power n k
shift_power n k e =
    step n 1 0 k _ refl (omega arith) e (λ e.
    step n 2 1 k _ refl (omega arith) e (λ e.
    step n 4 2 k _ refl (omega arith) e (λ e.
    step n 8 3 k _ refl (omega arith) e (λ e.
    step n 16 4 k _ refl (omega arith) e (λ e.
    step n 32 5 k _ refl (omega arith) e (λ e.
    step n 64 6 k _ refl (omega arith) e (λ e.
    step n 128 7 k _ refl (omega arith) e (λ e.
    step n 256 8 k _ refl (omega arith) e (λ e.
    step n 512 9 k _ refl (omega arith) e (λ e.
    step n 1024 10 k _ refl (omega arith) e (λ e. absurd (cc (e)))))))))))))

pub left_power : (n m j : ℕ) → m ≡ 2 ^ j → j < 32 → shifted_left n j ≡ n * m % 4294967296
left_power n m j p lt = ap (λ k. n * 2 ^ k % 4294967296) (mod-eq_of_lt lt) ∙ ap (λ k. n * k % 4294967296) (sym p)

multiplied_is : (r : Words) (x n m : ℕ) (o : Option ℤ) (i : Symbolic) → shift_of m ≡ o → r x ≡ plain n → option_map (λ k. Plain (Imm imm.Slli a0 x k)) o ≡ Some i → after (i ∷ []) r a0 ≡ plain (n * m % 4294967296)
multiplied_is r x n m None i s h e = absurd (cc (e))
multiplied_is r x n m (Some k) i s h e =
    let p = shift_power m k s in
    let is : Plain (Imm imm.Slli a0 x k) ≡ i = cc (e) in
    ap (λ s. after (s ∷ []) r a0) (sym is) ∙ ap₂ (λ w z. with_constant imm.Slli w (bits_of z)) h p.is ∙ ap plain (left_power n m p.places p.power p.few)

module _ (r : Words) (x n m : ℕ) (z0 : r 0 ≡ plain 0) (left : r x ≡ plain n) (wide : n < 4294967296) (broad : m < 4294967296) where
  abbrev Made : Symbolic → ℕ → Type 0
  Made i v = after (i ∷ []) r a0 ≡ plain v

  constant : (o : ImmOp) (v : ℕ) (i : Symbolic) → short o x (cast_signed w32 m) ≡ Some i → with_constant o (plain n) m ≡ plain v → Made i v
  constant o v i e q = short_is o r x m i broad e ∙ ap (λ w. with_constant o w m) left ∙ q

  less_constant : (k : Int) (u : Bool) (i : Symbolic) → is_unsigned k ≡ u → short (imm_by_sign u imm.Sltiu imm.Slti) x (cast_signed w32 m) ≡ Some i → Made i (value_of op.Lt k n m)
  less_constant k true i u e = constant imm.Sltiu (value_of op.Lt k n m) i e (ap plain (truth_is _ ∙ ap truth_of (less_unsigned n m wide broad) ∙ sym (numbers_are k n m true (λ a b. truth_of (int_lt a b)) u)))
  less_constant k false i u e = constant imm.Slti (value_of op.Lt k n m) i e (ap plain (truth_is _ ∙ ap truth_of (less_signed n m wide broad) ∙ sym (numbers_are k n m false (λ a b. truth_of (int_lt a b)) u)))

  right_constant : (k : Int) (u : Bool) (i : Symbolic) → is_unsigned k ≡ u → nat_lt 31 m ≡ false → shifted (imm_by_sign u imm.Srli imm.Srai) x m ≡ Some i → Made i (value_of op.Shr k n m)
  right_constant k true i u z e = shifted_is imm.Srli r x m i e ∙ ap (λ w. with_constant imm.Srli w m) left ∙ ap plain (right_unsigned n m wide z ∙ sym (numbers_are k n n true (λ a b. bits_in (shifted_down a m)) u))
  right_constant k false i u z e = shifted_is imm.Srai r x m i e ∙ ap (λ w. with_constant imm.Srai w m) left ∙ ap plain (right_signed n m wide z ∙ sym (numbers_are k n n false (λ a b. bits_in (shifted_down a m)) u))

  equal_constant : (b : Bool) (i : Symbolic) → (m == 0) ≡ b → (if b then Some (Plain (Imm imm.Sltiu a0 x (pos 1))) else None) ≡ Some i → Made i (truth_of (n == m))
  equal_constant true i z e =
      let is : Plain (Imm imm.Sltiu a0 x (pos 1)) ≡ i = cc (e) in
      ap (λ s. after (s ∷ []) r a0) (sym is) ∙ ap (λ w. with_constant imm.Sltiu w 1) left ∙ ap plain (truth_is _ ∙ ap truth_of (zero_is n) ∙ ap (λ c. truth_of (n == c)) (sym (equals m 0 z)))
  equal_constant false i z e = absurd (cc (e))

  differ_constant : (b : Bool) (i : Symbolic) → (m == 0) ≡ b → (if b then Some (Plain (Reg reg.Sltu a0 0 x)) else None) ≡ Some i → Made i (truth_of (not (n == m)))
  differ_constant true i z e =
      let is : Plain (Reg reg.Sltu a0 0 x) ≡ i = cc (e) in
      ap (λ s. after (s ∷ []) r a0) (sym is) ∙ ap₂ (of_two reg.Sltu) z0 left ∙ ap plain (truth_is _ ∙ ap truth_of (true_is n) ∙ ap (λ c. truth_of (not (n == c))) (sym (equals m 0 z)))
  differ_constant false i z e = absurd (cc (e))

  pub immediates : (o : Op) (k : Int) (i : Symbolic) → rule_of o k n m ≡ None → immediate o (is_unsigned k) x m ≡ Some i → Made i (value_of o k n m)
  immediates op.Add k i q e = constant imm.Addi (value_of op.Add k n m) i e (ap plain (sum_is (not (is_unsigned k)) n m wide broad ∙ sym (exact_is op.Add k n m (is_unsigned k) refl)))
  immediates op.Sub k i q e =
      let c : ℕ = (0 + (4294967296 - m)) % 4294967296 in
      let lt : c < 4294967296 = omega arith in
      short_is imm.Addi r x c i lt e ∙ ap (λ w. with_constant imm.Addi w c) left
      ∙ ap plain (negated_constant n m broad ∙ difference_is (not (is_unsigned k)) n m wide broad ∙ sym (exact_is op.Sub k n m (is_unsigned k) refl))
  immediates op.And k i q e = constant imm.Andi (value_of op.And k n m) i e refl
  immediates op.Or k i q e = constant imm.Ori (value_of op.Or k n m) i e refl
  immediates op.Xor k i q e = constant imm.Xori (value_of op.Xor k n m) i e refl
  immediates op.Lt k i q e = less_constant k (is_unsigned k) i refl e
  immediates op.Shl k i q e = shifted_is imm.Slli r x m i e ∙ ap (λ w. with_constant imm.Slli w m) left ∙ ap plain (left_is n m (unbroken op.Shl k n m q).1)
  immediates op.Shr k i q e = right_constant k (is_unsigned k) i refl (unbroken op.Shr k n m q).1 e
  immediates op.Mul k i q e = multiplied_is r x n m (shift_of m) i refl left e ∙ ap plain (product_value k n m (is_unsigned k) wide broad refl (unbroken op.Mul k n m q).2)
  immediates op.Eq k i q e = equal_constant (m == 0) i refl e
  immediates op.Ne k i q e = differ_constant (m == 0) i refl e
  immediates op.Div k i q e = absurd (cc (e))
  immediates op.Rem k i q e = absurd (cc (e))
  immediates op.Gt k i q e = absurd (cc (e))
  immediates op.Le k i q e = absurd (cc (e))
  immediates op.Ge k i q e = absurd (cc (e))
  immediates op.Neg k i q e = absurd (cc (e))
  immediates op.Not k i q e = absurd (cc (e))
  immediates op.Truth k i q e = absurd (cc (e))
  immediates op.Inc k i q e = absurd (cc (e))
  immediates op.Dec k i q e = absurd (cc (e))

-- ---- one operand
pub singles : (r : Words) (n : ℕ) (o : UnaryOperator) (k : Int) → r 0 ≡ plain 0 → r 10 ≡ plain n → n < 4294967296 → after (unary_of o) r a0 ≡ plain (single o k n)
singles r n unary.Plus k z0 is wide = is
singles r n unary.Minus k z0 is wide =
    ap₂ (of_two reg.Sub) z0 is ∙ ap plain (negative_is (not (is_unsigned k)) n wide ∙ ap (λ z. bits_in (neg_ℤ z)) (sym (operand_is k n)))
singles r n unary.Complement k z0 is wide = ap (λ w. with_constant imm.Xori w 4294967295) is ∙ ap plain (complement_is n wide)
singles r n unary.Not k z0 is wide = ap (λ w. with_constant imm.Sltiu w 1) is ∙ ap plain (truth_is _ ∙ ap truth_of (zero_is n))

-- the truth of any word
pub denies : (r : Words) → after (unary_of unary.Not) r a0 ≡ plain (truth_of ((r 10).bits == 0))
denies r = ap plain (truth_is _ ∙ ap truth_of (zero_is (r 10).bits))

-- ---- branches
told_is : (sense b : Bool) → told sense (truth_of b) ≡ (if sense then b else not b)
told_is true true = refl
told_is true false = refl
told_is false true = refl
told_is false false = refl

double : (b : Bool) → not (not b) ≡ b
double true = refl
double false = refl

at_least_is : (a b : ℕ) → nat_le b a ≡ not (nat_lt a b)
at_least_is a b = grind (arith, nat_tests)

less_taken : (u : Bool) (a b : ℕ) → a < 4294967296 → b < 4294967296 → is_taken (branch_by_sign u jump.Bltu jump.Blt) a b ≡ int_lt (number (not u) a) (number (not u) b)
less_taken true a b p q = less_unsigned a b p q
less_taken false a b p q = less_signed a b p q

least_taken : (u : Bool) (a b : ℕ) → a < 4294967296 → b < 4294967296 → is_taken (branch_by_sign u jump.Bgeu jump.Bge) a b ≡ not (int_lt (number (not u) a) (number (not u) b))
least_taken true a b p q = at_least_is a b ∙ ap not (less_unsigned a b p q)
least_taken false a b p q = ap not (less_signed a b p q)

module _ (r : Words) (x y n m : ℕ) (h : Operands r x y n m) where
  abbrev A : ℕ
  A = (r x).bits

  left_bits : A ≡ n
  left_bits = ap (λ (w : Word). w.bits) h.left

  right_bits : (r y).bits ≡ m
  right_bits = ap (λ (w : Word). w.bits) h.right

  -- the two orders, and equality
  abbrev Less : Bool → Bool
  Less u = int_lt (number (not u) n) (number (not u) m)

  abbrev More : Bool → Bool
  More u = int_lt (number (not u) m) (number (not u) n)

  less : (u : Bool) → is_taken (branch_by_sign u jump.Bltu jump.Blt) (r x).bits (r y).bits ≡ Less u
  less u = ap₂ (is_taken (branch_by_sign u jump.Bltu jump.Blt)) left_bits right_bits ∙ less_taken u n m h.wide h.broad

  more : (u : Bool) → is_taken (branch_by_sign u jump.Bltu jump.Blt) (r y).bits (r x).bits ≡ More u
  more u = ap₂ (is_taken (branch_by_sign u jump.Bltu jump.Blt)) right_bits left_bits ∙ less_taken u m n h.broad h.wide

  least : (u : Bool) → is_taken (branch_by_sign u jump.Bgeu jump.Bge) (r x).bits (r y).bits ≡ not (Less u)
  least u = ap₂ (is_taken (branch_by_sign u jump.Bgeu jump.Bge)) left_bits right_bits ∙ least_taken u n m h.wide h.broad

  most : (u : Bool) → is_taken (branch_by_sign u jump.Bgeu jump.Bge) (r y).bits (r x).bits ≡ not (More u)
  most u = ap₂ (is_taken (branch_by_sign u jump.Bgeu jump.Bge)) right_bits left_bits ∙ least_taken u m n h.broad h.wide

  value_less : (k : Int) → Less (is_unsigned k) ≡ int_lt (operand k n) (operand k m)
  value_less k = sym (ap₂ (λ a b. int_lt a b) (operand_is k n) (operand_is k m))

  value_more : (k : Int) → More (is_unsigned k) ≡ int_lt (operand k m) (operand k n)
  value_more k = sym (ap₂ (λ a b. int_lt a b) (operand_is k m) (operand_is k n))

  pub branches : (o : Op) (k : Int) (sense : Bool) (z : ℤ) → is_comparison o ≡ true → takes (branch o (is_unsigned k) sense x y z) r ≡ told sense (value_of o k n m)
  branches op.Lt k true z c = less (is_unsigned k) ∙ value_less k ∙ sym (told_is true (int_lt (operand k n) (operand k m)))
  branches op.Lt k false z c = least (is_unsigned k) ∙ ap not (value_less k) ∙ sym (told_is false (int_lt (operand k n) (operand k m)))
  branches op.Gt k true z c = more (is_unsigned k) ∙ value_more k ∙ sym (told_is true (int_lt (operand k m) (operand k n)))
  branches op.Gt k false z c = most (is_unsigned k) ∙ ap not (value_more k) ∙ sym (told_is false (int_lt (operand k m) (operand k n)))
  branches op.Le k true z c = most (is_unsigned k) ∙ ap not (value_more k) ∙ not_lt (operand k n) (operand k m) ∙ sym (told_is true (int_le (operand k n) (operand k m)))
  branches op.Le k false z c =
      more (is_unsigned k) ∙ value_more k ∙ sym (double (int_lt (operand k m) (operand k n))) ∙ ap not (not_lt (operand k n) (operand k m)) ∙ sym (told_is false (int_le (operand k n) (operand k m)))
  branches op.Ge k true z c = least (is_unsigned k) ∙ ap not (value_less k) ∙ not_lt (operand k m) (operand k n) ∙ sym (told_is true (int_le (operand k m) (operand k n)))
  branches op.Ge k false z c =
      less (is_unsigned k) ∙ value_less k ∙ sym (double (int_lt (operand k n) (operand k m))) ∙ ap not (not_lt (operand k m) (operand k n)) ∙ sym (told_is false (int_le (operand k m) (operand k n)))
  branches op.Eq k true z c = ap₂ (λ a b. a == b) left_bits right_bits ∙ sym (told_is true (n == m))
  branches op.Eq k false z c = ap₂ (λ a b. not (a == b)) left_bits right_bits ∙ sym (told_is false (n == m))
  branches op.Ne k true z c = ap₂ (λ a b. not (a == b)) left_bits right_bits ∙ sym (told_is true (not (n == m)))
  branches op.Ne k false z c = ap₂ (λ a b. a == b) left_bits right_bits ∙ sym (double (n == m)) ∙ sym (told_is false (not (n == m)))
  branches op.Add k sense z c = absurd (cc (c))
  branches op.Sub k sense z c = absurd (cc (c))
  branches op.Mul k sense z c = absurd (cc (c))
  branches op.Div k sense z c = absurd (cc (c))
  branches op.Rem k sense z c = absurd (cc (c))
  branches op.Shl k sense z c = absurd (cc (c))
  branches op.Shr k sense z c = absurd (cc (c))
  branches op.And k sense z c = absurd (cc (c))
  branches op.Or k sense z c = absurd (cc (c))
  branches op.Xor k sense z c = absurd (cc (c))
  branches op.Neg k sense z c = absurd (cc (c))
  branches op.Not k sense z c = absurd (cc (c))
  branches op.Truth k sense z c = absurd (cc (c))
  branches op.Inc k sense z c = absurd (cc (c))
  branches op.Dec k sense z c = absurd (cc (c))

-- ---- two registers with operands
pub met : Operands (λ j. plain j) 10 11 10 11
met = record { zero = refl; left = refl; right = refl; wide = omega arith; broad = omega arith }
