-- A number of elements as one of bytes, and sums of addresses.
use Rattle.std.specs.Prelude.{◌||◌}
use Rattle.std.proofs.Common.{◌≡◌, ℕ, zero, suc, ◌+◌, ◌*◌, ◌%◌, ◌<◌, ◌≤◌, ◌==◌, Bool, true, false, if◌then◌else◌, nat_lt, nat_le, ℤ, pos, negsuc, ◌+ℤ◌, ◌*ℤ◌, neg_ℤ, [], ◌∷◌, ◌++◌, Option, Some, None, refl, sym, ap, ap₂, ◌∙◌, arith}
use Rattle.std.proofs.lemmas.Bool.Decides.{nat_tests}
use Rattle.std.proofs.lemmas.Int.{ints, of_z-to_z}
use Rattle.std.specs.Int.{w32, cast_signed}
use Rattle.std.proofs.Math.Nat.{mod-eq_of_lt}
use Rattle.sc_base.specs.declared.integer.Int.{Int}
use Rattle.sc_base.specs.declared.integer.Int.TheVariants as int
use Rattle.sc_base.specs.declared.memory.Word.{Word}
use Rattle.sc_isa.specs.declared.instruction.Instr.TheVariants.{Lui}
use Rattle.sc_isa.specs.declared.instruction.RegOp.TheVariants as reg
use Rattle.sc_isa.specs.declared.instruction.ImmOp.TheVariants as imm
use Rattle.sc_isa_image.specs.Stubs.{upper_of, lower_of}
use Rattle.sc_ops.specs.Numbers.{converted, number_of, bits_of as bits_in}
use Rattle.sc_emu.specs.Operations.{plain, of_two, with_constant, bits_of, sum, difference}
use Rattle.sc_gen_code.specs.declared.symbolic.Symbolic.TheVariants.{Plain}
use Rattle.sc_gen_code.specs.Code.{Code, li, addi, apply, shift_of}
use Rattle.sc_gen_code.specs.Operators.{scale, scaled}
use Rattle.sc_compiled_values.specs.Straight.{Words, with, after}
use Rattle.sc_compiled_values.proofs.Constants.{shift_power, left_power}

-- ---- a register gets a number
pub halves : (n : ℕ) → n < 4294967296 → sum (upper_of n * 4096) (bits_of (lower_of n)) ≡ n
halves n lt = grind (arith, ints, nat_tests, lt)

pub from_zero : (n : ℕ) → n < 4294967296 → sum 0 n ≡ n
from_zero n lt = omega (arith, lt)

loaded_by : (b : Bool) (n : ℕ) (r : Words) → n < 4294967296 → r 0 ≡ plain 0 → after (if b then addi 6 0 (cast_signed w32 n) ∷ [] else Plain (Lui 6 (upper_of n)) ∷ addi 6 6 (lower_of n) ∷ []) r 6 ≡ plain n
loaded_by true n r lt z = ap₂ (with_constant imm.Addi) z (of_z-to_z w32 n lt) ∙ ap plain (from_zero n lt)
loaded_by false n r lt z = ap plain (halves n lt)

pub loaded : (n : ℕ) (r : Words) → n < 4294967296 → r 0 ≡ plain 0 → after (li 6 n) r 6 ≡ plain n
loaded n r lt z = loaded_by (nat_lt n 2048 || nat_le 4294965248 n) n r lt z

stays : (r : Words) (w : Word) (j : ℕ) → (j == 6) ≡ false → with r 6 w j ≡ r j
stays r w j e = other_one (j == 6) w (r j) e
  where
    other_one : (b : Bool) (u v : Word) → b ≡ false → (if b then u else v) ≡ v
    other_one false u v e = refl
    other_one true u v e = absurd (cc (e))

loaded_keeps_by : (b : Bool) (n : ℕ) (r : Words) (j : ℕ) → (j == 6) ≡ false → after (if b then addi 6 0 (cast_signed w32 n) ∷ [] else Plain (Lui 6 (upper_of n)) ∷ addi 6 6 (lower_of n) ∷ []) r j ≡ r j
loaded_keeps_by true n r j e = stays r _ j e
loaded_keeps_by false n r j e = stays (after (Plain (Lui 6 (upper_of n)) ∷ []) r) _ j e ∙ stays r _ j e

pub loaded_keeps : (n : ℕ) (r : Words) (j : ℕ) → (j == 6) ≡ false → after (li 6 n) r j ≡ r j
loaded_keeps n r j e = loaded_keeps_by (nat_lt n 2048 || nat_le 4294965248 n) n r j e

pub after_both : (c d : Code) (r : Words) → after (c ++ d) r ≡ after d (after c r)
after_both [] d r = refl
after_both (s ∷ c) d r = after_both c d (after (s ∷ []) r)

-- ---- scaled
module _ (y size n : ℕ) (r : Words) (z0 : r 0 ≡ plain 0) (is : r y ≡ plain n) (other : (y == 6) ≡ false) (small : size < 4294967296) where
  scaled_word : (o : Option ℤ) → shift_of size ≡ o → after (scaled y size o) r 6 ≡ plain (n * size % 4294967296)
  scaled_word (Some k) e =
      let p = shift_power size k e in
      ap₂ (λ w z. with_constant imm.Slli w (bits_of z)) is p.is ∙ ap plain (left_power n size p.places p.power p.few)
  scaled_word None e =
      ap (λ (s : Words). s 6) (after_both (li 6 size) (apply reg.Mul 6 y 6 ∷ []) r) ∙ ap₂ (of_two reg.Mul) (loaded_keeps size r y other ∙ is) (loaded size r small z0)

  scaled_keeps : (o : Option ℤ) (j : ℕ) → (j == 6) ≡ false → after (scaled y size o) r j ≡ r j
  scaled_keeps (Some k) j e = stays r _ j e
  scaled_keeps None j e = ap (λ (s : Words). s j) (after_both (li 6 size) (apply reg.Mul 6 y 6 ∷ []) r) ∙ stays (after (li 6 size) r) _ j e ∙ loaded_keeps size r j e

  pub scale_word : after (scale y size) r 6 ≡ plain (n * size % 4294967296)
  scale_word = scaled_word (shift_of size) refl

  pub scale_keeps : (j : ℕ) → (j == 6) ≡ false → after (scale y size) r j ≡ r j
  scale_keeps j e = scaled_keeps (shift_of size) j e

-- ---- a number and the bits that stand for it
abbrev pub Congruent : ℕ → ℤ → Type 0
Congruent n (pos m) = m ≡ n
Congruent n (negsuc c) = n + suc c ≡ 4294967296

small_bits : (k : Int) (n : ℕ) (a : ℕ) → number_of k n ≡ pos a → a < 4294967296
small_bits int.Char n a e = grind (arith, ints, nat_tests, e)
small_bits int.SChar n a e = grind (arith, ints, nat_tests, e)
small_bits int.UChar n a e = grind (arith, ints, nat_tests, e)
small_bits int.Short n a e = grind (arith, ints, nat_tests, e)
small_bits int.UShort n a e = grind (arith, ints, nat_tests, e)
small_bits int.Int n a e = grind (arith, ints, nat_tests, e)
small_bits int.UInt n a e = grind (arith, ints, nat_tests, e)
small_bits int.Long n a e = grind (arith, ints, nat_tests, e)
small_bits int.ULong n a e = grind (arith, ints, nat_tests, e)

small_negative : (k : Int) (n : ℕ) (a : ℕ) → number_of k n ≡ negsuc a → a < 4294967296
small_negative int.Char n a e = grind (arith, ints, nat_tests, e)
small_negative int.SChar n a e = grind (arith, ints, nat_tests, e)
small_negative int.UChar n a e = grind (arith, ints, nat_tests, e)
small_negative int.Short n a e = grind (arith, ints, nat_tests, e)
small_negative int.UShort n a e = grind (arith, ints, nat_tests, e)
small_negative int.Int n a e = grind (arith, ints, nat_tests, e)
small_negative int.UInt n a e = grind (arith, ints, nat_tests, e)
small_negative int.Long n a e = grind (arith, ints, nat_tests, e)
small_negative int.ULong n a e = grind (arith, ints, nat_tests, e)

congruent_by : (n : ℕ) (z : ℤ) → ((a : ℕ) → z ≡ pos a → a < 4294967296) → ((a : ℕ) → z ≡ negsuc a → a < 4294967296) → bits_in z ≡ n → Congruent n z
congruent_by n (pos a) f g e = sym (mod-eq_of_lt (f a refl)) ∙ e
congruent_by n (negsuc a) f g e = let lt = g a refl in omega (arith, e, lt)

pub congruent : (k : Int) (n : ℕ) → converted n k ≡ n → Congruent n (number_of k n)
congruent k n e = congruent_by n (number_of k n) (small_bits k n) (small_negative k n) e

-- ---- where it leads, in numbers
up : (i a n s : ℕ) → pos i +ℤ pos n *ℤ pos s ≡ pos a → i + n * s ≡ a
up i a n s e = cc (e)

subtracted : (i a c : ℕ) → pos i +ℤ neg_ℤ (pos c) ≡ pos a → i ≡ a + c
subtracted i a c e = omega (arith, ints, e)

down : (i a c s : ℕ) → pos i +ℤ negsuc c *ℤ pos s ≡ pos a → i ≡ a + suc c * s
down i a c s e = subtracted i a (suc c * s) e

away : (i a n s : ℕ) → pos i +ℤ neg_ℤ (pos n) *ℤ pos s ≡ pos a → i ≡ a + n * s
away i a zero s e = omega (arith, ints, e)
away i a (suc n) s e = subtracted i a (suc n * s) e

times_all : (n c s : ℕ) → n + suc c ≡ 4294967296 → n * s + suc c * s ≡ 4294967296 * s
times_all n c s e = let more = ap (λ (x : ℕ). x * s) e in omega (arith, more)

-- so far behind a base
pub sum_up : (base top i a n s : ℕ) (z : ℤ) → Congruent n z → base + top < 4294967296 → i ≤ top → a ≤ top → pos i +ℤ z *ℤ pos s ≡ pos a → sum (base + i) (n * s % 4294967296) ≡ base + a
sum_up base top i a n s (pos m) g high p q e = let f = up i a m s e in let same = ap (λ (x : ℕ). x * s) g in omega (arith, high, q, f, same)
sum_up base top i a n s (negsuc c) g high p q e = let f = down i a c s e in let all = times_all n c s g in omega (arith, high, p, f, all)

pub sum_down : (base top i a n s : ℕ) (z : ℤ) → Congruent n z → base + top < 4294967296 → i ≤ top → a ≤ top → pos i +ℤ neg_ℤ z *ℤ pos s ≡ pos a → difference (base + i) (n * s % 4294967296) ≡ base + a
sum_down base top i a n s (pos m) g high p q e = let f = away i a m s e in let same = ap (λ (x : ℕ). x * s) g in omega (arith, high, p, f, same)
sum_down base top i a n s (negsuc c) g high p q e = let f = up i a (suc c) s e in let all = times_all n c s g in omega (arith, high, q, f, all)
