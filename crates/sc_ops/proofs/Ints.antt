-- The operators in `int`, from what the code's signed operations give.
use Rattle.std.proofs.Common.{◌≡◌, ℕ, zero, suc, ◌-◌, ◌<◌, ◌≤◌, ◌^◌, ◌%◌, Bool, true, false, not, if◌then◌else◌, ℤ, pos, negsuc, ◌-ℤ◌, ◌*ℤ◌, int_div, int_rem, Some, None, Result, Ok, Err, refl, sym, ap, ap₂, ◌∙◌, arith, to_z, of_z, w32, nat_lt, nat_le, ◌==◌, ⊎_elim}
use Rattle.std.proofs.lemmas.Int.{ints}
use Rattle.std.proofs.lemmas.Bool.{cond-true, cond-false, lt-leb, le-leb, le-ltb, ne_eqb, cases_lt}
use Rattle.std.proofs.Math.Nat.{mod-eq_of_lt}
use Rattle.sc_base.specs.declared.integer.Int.TheVariants.{Int as PlainInt}
use Rattle.sc_base.specs.declared.operator.Op.{Op}
use Rattle.sc_base.specs.declared.operator.Op.TheVariants.{Sub, Mul, Div, Rem}
use Rattle.sc_base.specs.declared.report.Rule.{Rule}
use Rattle.sc_base.specs.declared.report.Rule.TheVariants.{U7, U8}
use Rattle.sc_ops.specs.Numbers.{number_of}
use Rattle.sc_ops.specs.Operators.{result_of, checked, divided, unless_broken}

-- the number of 32 bits without the sign bit, and with it
number_of-below : (v : ℕ) → v < 2 ^ 31 → number_of PlainInt v ≡ pos v
number_of-below v h = cond-false (nat_le (2 ^ 31) (v % 2 ^ 32)) _ _ (lt-leb _ _ (omega arith)) ∙ ap pos (mod-eq_of_lt (omega arith))

number_of-above : (v : ℕ) → 2 ^ 31 ≤ v → v < 2 ^ 32 → number_of PlainInt v ≡ negsuc (2 ^ 32 - 1 - v)
number_of-above v low h = cond-true (nat_le (2 ^ 31) (v % 2 ^ 32)) _ _ (le-leb _ _ (omega arith)) ∙ ap (λ n. negsuc (2 ^ 32 - 1 - n)) (mod-eq_of_lt h)

to_z-above : (v : ℕ) → 2 ^ 31 ≤ v → to_z w32 v ≡ negsuc (2 ^ 32 - suc v)
to_z-above v low = let e : nat_lt v (2 ^ 31) ≡ false = le-ltb v (2 ^ 31) low in rw e refl

-- the code reads 32 bits as the definition does
number_of-int : (v : ℕ) → v < 2 ^ 32 → to_z w32 v ≡ number_of PlainInt v
number_of-int v h = ⊎_elim (λ below. omega (arith, ints, number_of-below v below)) (λ above. to_z-above v above ∙ ap negsuc (omega arith) ∙ sym (number_of-above v above h)) (cases_lt v (2 ^ 31))

-- the signed number that the code made of these bits
pub taken : (v : ℕ) (x : ℤ) → v < 2 ^ 32 → x ≡ to_z w32 v → to_z w32 (of_z w32 x) ≡ number_of PlainInt v
taken v x h e = omega (arith, ints, number_of-int v h)

-- a zero divisor has zero bits
divided_pos : (v : ℕ) (r : Result ℕ Rule) → divided (pos v) r ≡ (if v == 0 then Err U8 else r)
divided_pos zero r = refl
divided_pos (suc n) r = sym (cond-false (suc n == 0) (Err U8) r (ne_eqb (suc n) 0 (λ e. omega arith)))

divided-int : (v : ℕ) (r : Result ℕ Rule) → v < 2 ^ 32 → divided (number_of PlainInt v) r ≡ (if v == 0 then Err U8 else r)
divided-int v r h = ⊎_elim (λ below. ap (λ z. divided z r) (number_of-below v below) ∙ divided_pos v r)
    (λ above. ap (λ z. divided z r) (number_of-above v above h) ∙ sym (cond-false (v == 0) (Err U8) r (ne_eqb v 0 (λ e. omega arith))))
    (cases_lt v (2 ^ 31))

-- the test of the range, turned round
pub checked_is : (t : Bool) (v : ℕ) → let answer : Result ℕ Rule = if t then Ok v else Err U7 in answer ≡ unless_broken (if not t then Some U7 else None) v
checked_is true v = refl
checked_is false v = refl

-- the same behind the test of the divisor
pub divided_is : (zero_divisor t : Bool) (v : ℕ) → let answer : Result ℕ Rule = if zero_divisor then Err U8 else (if t then Ok v else Err U7) in
    answer ≡ unless_broken (if zero_divisor then Some U8 else if not t then Some U7 else None) v
divided_is true t v = refl
divided_is false true v = refl
divided_is false false v = refl

-- the result of a call, where its operands are the numbers of the bits
module _ (op : Op) (a b : ℕ) (x y : ℤ) (ex : x ≡ number_of PlainInt a) (ey : y ≡ number_of PlainInt b) (r : Result ℕ Rule) where
  pub difference_is : op ≡ Sub → r ≡ checked (x -ℤ y) (x -ℤ y) → r ≡ result_of op PlainInt a b
  difference_is o e = e ∙ ap₂ (λ m n. checked (m -ℤ n) (m -ℤ n)) ex ey ∙ checked_is _ _ ∙ ap (λ q. result_of q PlainInt a b) (sym o)

  pub product_is : op ≡ Mul → r ≡ checked (x *ℤ y) (x *ℤ y) → r ≡ result_of op PlainInt a b
  product_is o e = e ∙ ap₂ (λ m n. checked (m *ℤ n) (m *ℤ n)) ex ey ∙ checked_is _ _ ∙ ap (λ q. result_of q PlainInt a b) (sym o)

  pub quotient_is : b < 2 ^ 32 → op ≡ Div → r ≡ divided y (checked (int_div x y) (int_div x y)) → r ≡ result_of op PlainInt a b
  quotient_is h o e = e ∙ ap₂ (λ m n. divided n (checked (int_div m n) (int_div m n))) ex ey ∙ divided-int b _ h ∙ divided_is _ _ _ ∙ ap (λ q. result_of q PlainInt a b) (sym o)

  pub remainder_is : b < 2 ^ 32 → op ≡ Rem → r ≡ divided y (checked (int_div x y) (int_rem x y)) → r ≡ result_of op PlainInt a b
  remainder_is h o e = e ∙ ap₂ (λ m n. divided n (checked (int_div m n) (int_rem m n))) ex ey ∙ divided-int b _ h ∙ divided_is _ _ _ ∙ ap (λ q. result_of q PlainInt a b) (sym o)
