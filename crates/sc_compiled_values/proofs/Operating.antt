-- The code of operators on integers, by what it makes of registers.
use Rattle.std.specs.Prelude.{◌&&◌}
use Rattle.std.proofs.Common.{◌≡◌, ℕ, ◌*◌, ◌%◌, ◌<◌, ◌==◌, Bool, true, false, not, if◌then◌else◌, nat_lt, ℤ, int_lt, int_le, [], ◌∷◌, Some, None, refl, sym, ap, ap₂, ◌∙◌, subst}
use Rattle.sc_base.specs.declared.integer.Int.{Int}
use Rattle.sc_base.specs.declared.integer.Int.TheVariants as int
use Rattle.sc_base.specs.declared.memory.Word.{Word}
use Rattle.sc_base.specs.declared.operator.Op.{Op}
use Rattle.sc_base.specs.declared.operator.Op.TheVariants as op
use Rattle.sc_base.specs.declared.report.Rule.TheVariants.{U7, U8, U9}
use Rattle.sc_isa.specs.declared.instruction.RegOp.{RegOp}
use Rattle.sc_isa.specs.declared.instruction.RegOp.TheVariants as reg
use Rattle.sc_isa.specs.declared.instruction.ImmOp.TheVariants as imm
use Rattle.sc_ops.specs.Numbers.{is_signed, promoted, is_in_range, bits_of as bits_in}
use Rattle.sc_ops.specs.Operators.{truth_of, value_of, rule_of, operand, exact, shifted_down, is_out_of_range, is_division, is_shift, is_arithmetic, tested}
use Rattle.sc_emu.specs.Operations.{plain, of_two, with_constant}
use Rattle.sc_gen_code.specs.Code.{a0, apply}
use Rattle.sc_gen_code.specs.Operators.{operate, is_unsigned, by_sign}
use Rattle.sc_compiled_values.specs.Straight.{Words, with, after}
use Rattle.sc_compiled_values.specs.Operators.{IsOperator, Operands}
use Rattle.sc_compiled_values.proofs.Numbers.{number, sum_is, difference_is, product_signed, product_unsigned, quotient_signed, quotient_unsigned, remainder_signed, remainder_unsigned, left_is, right_signed, right_unsigned, truth_is, inverted_is, less_signed, less_unsigned, not_lt, equal_is, differ_is}

-- ---- the types
pub operand_is : (k : Int) (v : ℕ) → operand k v ≡ number (not (is_unsigned k)) v
operand_is int.Char v = refl
operand_is int.SChar v = refl
operand_is int.UChar v = refl
operand_is int.Short v = refl
operand_is int.UShort v = refl
operand_is int.Int v = refl
operand_is int.UInt v = refl
operand_is int.Long v = refl
operand_is int.ULong v = refl

pub signed_is_not : (k : Int) → is_signed (promoted k) ≡ not (is_unsigned k)
signed_is_not int.Char = refl
signed_is_not int.SChar = refl
signed_is_not int.UChar = refl
signed_is_not int.Short = refl
signed_is_not int.UShort = refl
signed_is_not int.Int = refl
signed_is_not int.UInt = refl
signed_is_not int.Long = refl
signed_is_not int.ULong = refl

-- ---- no rule is broken
none_of : (a b c : Bool) → (if a then Some U8 else if b then Some U9 else if c then Some U7 else None) ≡ None → (a ≡ false) × (b ≡ false) × (c ≡ false)
none_of true b c e = absurd (cc (e))
none_of false true c e = absurd (cc (e))
none_of false false true e = absurd (cc (e))
none_of false false false e = (refl, refl, refl)

pub unbroken : (o : Op) (k : Int) (n m : ℕ) → rule_of o k n m ≡ None → ((is_division o && m == 0) ≡ false) × ((is_shift o && nat_lt 31 m) ≡ false) × (is_out_of_range o k n m ≡ false)
unbroken o k n m e = none_of (is_division o && m == 0) (is_shift o && nat_lt 31 m) (is_out_of_range o k n m) e

in_range_by : (a s t : Bool) → (a && s && not t) ≡ false → a ≡ true → s ≡ true → t ≡ true
in_range_by true true true e p q = refl
in_range_by true true false e p q = absurd (cc (e))
in_range_by true false t e p q = absurd (cc (q))
in_range_by false s t e p q = absurd (cc (p))

-- what is tested is in the range of a signed type
ranged : (o : Op) (k : Int) (n m : ℕ) → is_arithmetic o ≡ true → is_out_of_range o k n m ≡ false → is_unsigned k ≡ false → is_in_range (tested o (number true n) (number true m)) ≡ true
ranged o k n m a e u =
    let s : is_signed (promoted k) ≡ true = signed_is_not k ∙ ap not u in
    let x : operand k n ≡ number true n = operand_is k n ∙ ap (λ b. number (not b) n) u in
    let y : operand k m ≡ number true m = operand_is k m ∙ ap (λ b. number (not b) m) u in
    subst (λ z. is_in_range (tested o z (number true m)) ≡ true) x (subst (λ z. is_in_range (tested o (operand k n) z) ≡ true) y
    (in_range_by (is_arithmetic o) (is_signed (promoted k)) (is_in_range (tested o (operand k n) (operand k m))) e a s))

pub exact_is : (o : Op) (k : Int) (n m : ℕ) (u : Bool) → is_unsigned k ≡ u → bits_in (exact o (operand k n) (operand k m)) ≡ bits_in (exact o (number (not u) n) (number (not u) m))
exact_is o k n m u e = ap₂ (λ x y. bits_in (exact o x y)) (operand_is k n ∙ ap (λ b. number (not b) n) e) (operand_is k m ∙ ap (λ b. number (not b) m) e)

pub numbers_are : (k : Int) (n m : ℕ) (u : Bool) (f : ℤ → ℤ → ℕ) → is_unsigned k ≡ u → f (operand k n) (operand k m) ≡ f (number (not u) n) (number (not u) m)
numbers_are k n m u f e = ap₂ f (operand_is k n ∙ ap (λ b. number (not b) n) e) (operand_is k m ∙ ap (λ b. number (not b) m) e)

pub product_value : (k : Int) (n m : ℕ) (u : Bool) → n < 4294967296 → m < 4294967296 → is_unsigned k ≡ u → is_out_of_range op.Mul k n m ≡ false → n * m % 4294967296 ≡ value_of op.Mul k n m
product_value k n m true p b e q = product_unsigned n m p b ∙ sym (exact_is op.Mul k n m true e)
product_value k n m false p b e q = product_signed n m p b (ranged op.Mul k n m refl q e) ∙ sym (exact_is op.Mul k n m false e)

module _ (r : Words) (x y n m : ℕ) (h : Operands r x y n m) where
  -- one instruction, and two
  abbrev One : RegOp → ℕ → Type 0
  One o v = of_two o (r x) (r y) ≡ plain v

  one : (o : RegOp) (v : ℕ) → of_two o (plain n) (plain m) ≡ plain v → One o v
  one o v e = ap₂ (of_two o) h.left h.right ∙ e

  other : (o : RegOp) (v : ℕ) → of_two o (plain m) (plain n) ≡ plain v → of_two o (r y) (r x) ≡ plain v
  other o v e = ap₂ (of_two o) h.right h.left ∙ e

  sum_word : (k : Int) (u : Bool) → is_unsigned k ≡ u → One reg.Add (value_of op.Add k n m)
  sum_word k u e = one reg.Add (value_of op.Add k n m) (ap plain (sum_is (not u) n m h.wide h.broad ∙ sym (exact_is op.Add k n m u e)))

  difference_word : (k : Int) (u : Bool) → is_unsigned k ≡ u → One reg.Sub (value_of op.Sub k n m)
  difference_word k u e = one reg.Sub (value_of op.Sub k n m) (ap plain (difference_is (not u) n m h.wide h.broad ∙ sym (exact_is op.Sub k n m u e)))

  quotient_word : (k : Int) (u : Bool) → is_unsigned k ≡ u → (m == 0) ≡ false → is_out_of_range op.Div k n m ≡ false → One (by_sign u reg.Divu reg.Div) (value_of op.Div k n m)
  quotient_word k true e z q = one reg.Divu (value_of op.Div k n m) (ap plain (quotient_unsigned n m h.wide h.broad z ∙ sym (exact_is op.Div k n m true e)))
  quotient_word k false e z q = one reg.Div (value_of op.Div k n m) (ap plain (quotient_signed n m h.wide h.broad z (ranged op.Div k n m refl q e) ∙ sym (exact_is op.Div k n m false e)))

  remainder_word : (k : Int) (u : Bool) → is_unsigned k ≡ u → (m == 0) ≡ false → One (by_sign u reg.Remu reg.Rem) (value_of op.Rem k n m)
  remainder_word k true e z = one reg.Remu (value_of op.Rem k n m) (ap plain (remainder_unsigned n m h.wide h.broad z ∙ sym (exact_is op.Rem k n m true e)))
  remainder_word k false e z = one reg.Rem (value_of op.Rem k n m) (ap plain (remainder_signed n m h.wide h.broad z ∙ sym (exact_is op.Rem k n m false e)))

  right_word : (k : Int) (u : Bool) → is_unsigned k ≡ u → nat_lt 31 m ≡ false → One (by_sign u reg.Srl reg.Sra) (value_of op.Shr k n m)
  right_word k true e z = one reg.Srl (value_of op.Shr k n m) (ap plain (right_unsigned n m h.wide z ∙ sym (numbers_are k n n true (λ a b. bits_in (shifted_down a m)) e)))
  right_word k false e z = one reg.Sra (value_of op.Shr k n m) (ap plain (right_signed n m h.wide z ∙ sym (numbers_are k n n false (λ a b. bits_in (shifted_down a m)) e)))

  less_word : (k : Int) (u : Bool) → is_unsigned k ≡ u → One (by_sign u reg.Sltu reg.Slt) (value_of op.Lt k n m)
  less_word k true e = one reg.Sltu (value_of op.Lt k n m) (ap plain (truth_is _ ∙ ap truth_of (less_unsigned n m h.wide h.broad) ∙ sym (numbers_are k n m true (λ a b. truth_of (int_lt a b)) e)))
  less_word k false e = one reg.Slt (value_of op.Lt k n m) (ap plain (truth_is _ ∙ ap truth_of (less_signed n m h.wide h.broad) ∙ sym (numbers_are k n m false (λ a b. truth_of (int_lt a b)) e)))

  more_word : (k : Int) (u : Bool) → is_unsigned k ≡ u → of_two (by_sign u reg.Sltu reg.Slt) (r y) (r x) ≡ plain (value_of op.Gt k n m)
  more_word k true e = other reg.Sltu (value_of op.Gt k n m) (ap plain (truth_is _ ∙ ap truth_of (less_unsigned m n h.broad h.wide) ∙ sym (numbers_are k n m true (λ a b. truth_of (int_lt b a)) e)))
  more_word k false e = other reg.Slt (value_of op.Gt k n m) (ap plain (truth_is _ ∙ ap truth_of (less_signed m n h.broad h.wide) ∙ sym (numbers_are k n m false (λ a b. truth_of (int_lt b a)) e)))

  abbrev Inverted : Word → ℕ → Type 0
  Inverted w v = with_constant imm.Xori w 1 ≡ plain v

  at_most_word : (k : Int) (u : Bool) → is_unsigned k ≡ u → Inverted (of_two (by_sign u reg.Sltu reg.Slt) (r y) (r x)) (value_of op.Le k n m)
  at_most_word k true e =
      ap (λ w. with_constant imm.Xori w 1) (ap₂ (of_two reg.Sltu) h.right h.left)
      ∙ ap plain (inverted_is (nat_lt m n) ∙ ap (λ b. truth_of (not b)) (less_unsigned m n h.broad h.wide) ∙ ap truth_of (not_lt (number false n) (number false m)) ∙ sym (numbers_are k n m true (λ a b. truth_of (int_le a b)) e))
  at_most_word k false e =
      ap (λ w. with_constant imm.Xori w 1) (ap₂ (of_two reg.Slt) h.right h.left)
      ∙ ap plain (inverted_is _ ∙ ap (λ b. truth_of (not b)) (less_signed m n h.broad h.wide) ∙ ap truth_of (not_lt (number true n) (number true m)) ∙ sym (numbers_are k n m false (λ a b. truth_of (int_le a b)) e))

  at_least_word : (k : Int) (u : Bool) → is_unsigned k ≡ u → Inverted (of_two (by_sign u reg.Sltu reg.Slt) (r x) (r y)) (value_of op.Ge k n m)
  at_least_word k true e =
      ap (λ w. with_constant imm.Xori w 1) (ap₂ (of_two reg.Sltu) h.left h.right)
      ∙ ap plain (inverted_is (nat_lt n m) ∙ ap (λ b. truth_of (not b)) (less_unsigned n m h.wide h.broad) ∙ ap truth_of (not_lt (number false m) (number false n)) ∙ sym (numbers_are k n m true (λ a b. truth_of (int_le b a)) e))
  at_least_word k false e =
      ap (λ w. with_constant imm.Xori w 1) (ap₂ (of_two reg.Slt) h.left h.right)
      ∙ ap plain (inverted_is _ ∙ ap (λ b. truth_of (not b)) (less_signed n m h.wide h.broad) ∙ ap truth_of (not_lt (number true m) (number true n)) ∙ sym (numbers_are k n m false (λ a b. truth_of (int_le b a)) e))

  pub operates : (o : Op) (k : Int) → IsOperator o → rule_of o k n m ≡ None → after (operate o (is_unsigned k) x y) r a0 ≡ plain (value_of o k n m)
  operates op.Add k i e = sum_word k (is_unsigned k) refl
  operates op.Sub k i e = difference_word k (is_unsigned k) refl
  operates op.Mul k i e = one reg.Mul (value_of op.Mul k n m) (ap plain (product_value k n m (is_unsigned k) h.wide h.broad refl (unbroken op.Mul k n m e).2))
  operates op.Div k i e = let q = unbroken op.Div k n m e in quotient_word k (is_unsigned k) refl q.0 q.2
  operates op.Rem k i e = let q = unbroken op.Rem k n m e in remainder_word k (is_unsigned k) refl q.0
  operates op.Shl k i e = one reg.Sll (value_of op.Shl k n m) (ap plain (left_is n m (unbroken op.Shl k n m e).1))
  operates op.Shr k i e = right_word k (is_unsigned k) refl (unbroken op.Shr k n m e).1
  operates op.And k i e = one reg.And (value_of op.And k n m) refl
  operates op.Or k i e = one reg.Or (value_of op.Or k n m) refl
  operates op.Xor k i e = one reg.Xor (value_of op.Xor k n m) refl
  operates op.Lt k i e = less_word k (is_unsigned k) refl
  operates op.Gt k i e = more_word k (is_unsigned k) refl
  operates op.Le k i e = at_most_word k (is_unsigned k) refl
  operates op.Ge k i e = at_least_word k (is_unsigned k) refl
  operates op.Eq k i e =
      ap (λ w. with_constant imm.Sltiu w 1) (ap₂ (of_two reg.Xor) h.left h.right) ∙ ap plain (truth_is _ ∙ ap truth_of (equal_is n m))
  operates op.Ne k i e =
      ap₂ (of_two reg.Sltu) h.zero (ap₂ (of_two reg.Xor) h.left h.right) ∙ ap plain (truth_is _ ∙ ap truth_of (differ_is n m))
  operates op.Neg k i e = absurd i
  operates op.Not k i e = absurd i
  operates op.Truth k i e = absurd i
  operates op.Inc k i e = absurd i
  operates op.Dec k i e = absurd i

-- ---- the other registers
kept : (r : Words) (w : Word) (j : ℕ) → (j == 10) ≡ false → with r 10 w j ≡ r j
kept r w j e = other_one (j == 10) w (r j) e
  where
    other_one : (b : Bool) (u v : Word) → b ≡ false → (if b then u else v) ≡ v
    other_one false u v e = refl
    other_one true u v e = absurd (cc (e))

pub operate_keeps : (o : Op) (u : Bool) (x y : ℕ) (r : Words) (j : ℕ) → (j == 10) ≡ false → after (operate o u x y) r j ≡ r j
operate_keeps op.Add u x y r j e = kept r _ j e
operate_keeps op.Sub u x y r j e = kept r _ j e
operate_keeps op.Mul u x y r j e = kept r _ j e
operate_keeps op.Div u x y r j e = kept r _ j e
operate_keeps op.Rem u x y r j e = kept r _ j e
operate_keeps op.Shl u x y r j e = kept r _ j e
operate_keeps op.Shr u x y r j e = kept r _ j e
operate_keeps op.And u x y r j e = kept r _ j e
operate_keeps op.Or u x y r j e = kept r _ j e
operate_keeps op.Xor u x y r j e = kept r _ j e
operate_keeps op.Lt u x y r j e = kept r _ j e
operate_keeps op.Gt u x y r j e = kept r _ j e
operate_keeps op.Le u x y r j e = kept (after (apply (by_sign u reg.Sltu reg.Slt) a0 y x ∷ []) r) _ j e ∙ kept r _ j e
operate_keeps op.Ge u x y r j e = kept (after (apply (by_sign u reg.Sltu reg.Slt) a0 x y ∷ []) r) _ j e ∙ kept r _ j e
operate_keeps op.Eq u x y r j e = kept (after (apply reg.Xor a0 x y ∷ []) r) _ j e ∙ kept r _ j e
operate_keeps op.Ne u x y r j e = kept (after (apply reg.Xor a0 x y ∷ []) r) _ j e ∙ kept r _ j e
operate_keeps op.Neg u x y r j e = refl
operate_keeps op.Not u x y r j e = refl
operate_keeps op.Truth u x y r j e = refl
operate_keeps op.Inc u x y r j e = refl
operate_keeps op.Dec u x y r j e = refl
