-- A pointer that is moved by a constant: one instruction.
use Rattle.std.proofs.Common.{◌≡◌, ℕ, zero, suc, ◌+◌, ◌-◌, ◌*◌, ◌%◌, ◌<◌, ℤ, pos, negsuc, neg_ℤ, List, [], ◌∷◌, None, refl, sym, ◌∙◌, subst, arith}
use Rattle.std.proofs.Math.Nat.{mod-eq_of_lt}
use Rattle.sc_base.specs.declared.integer.Int.{Int}
use Rattle.sc_base.specs.declared.key.Key.{Key}
use Rattle.sc_base.specs.declared.memory.Word.{Word}
use Rattle.sc_base.specs.declared.operator.Op.{Op}
use Rattle.sc_base.specs.declared.operator.Op.TheVariants as op
use Rattle.sc_mem.specs.Flat.{Flat}
use Rattle.sc_isa.specs.declared.instruction.RegOp.TheVariants as reg
use Rattle.sc_ops.specs.Numbers.{converted, number_of}
use Rattle.sc_emu.specs.Operations.{plain, of_two, sum, difference, bits_of}
use Rattle.sc_meaning.specs.Values.{Value, Number}
use Rattle.sc_meaning.specs.World.{Object}
use Rattle.sc_meaning.specs.Accesses.{placed, steps_of}
use Rattle.sc_meaning.specs.Violations.{shift_rule, target}
use Rattle.sc_gen_code.specs.Code.{a0}
use Rattle.sc_gen_code.specs.Operators.{by_bytes}
use Rattle.sc_compiled_frames.specs.Means.{Means}
use Rattle.sc_compiled_frames.specs.Words.{HeldWords}
use Rattle.sc_compiled_values.specs.Straight.{Words, after}
use Rattle.sc_compiled_values.specs.Pointers.{IsMove}
use Rattle.sc_compiled_values.proofs.Scaling.{congruent}
use Rattle.sc_compiled_values.proofs.Pointers.{tag_stays, sum_of, difference_of}

-- so many bytes less
less_bytes : (b n : ℕ) → n < 2048 → sum b (bits_of (neg_ℤ (pos n))) ≡ difference b n
less_bytes b zero lt = omega arith
less_bytes b (suc n) lt = omega (arith, lt)

few : (c size n : ℕ) → n ≡ c * size → n < 2048 → c * size % 4294967296 ≡ n
few c size n e lt = mod-eq_of_lt (subst (λ k. k < 4294967296) e (omega (arith, lt))) ∙ sym e

pub bytes_move : (f : Key → ℕ) (fs : List Key) (m : Flat) (os : List Object) → HeldWords fs m os → (r : Words) (x c size n : ℕ) (k : Int) (v : Value) (o : Op) → Means f m.objects (r x) v → converted c k ≡ c → n ≡ c * size → n < 2048 → IsMove o
    → shift_rule os v (Number c) (steps_of o k (Number c)) size ≡ None → Means f m.objects (after (by_bytes o x n ∷ []) r a0) (placed v (target v (steps_of o k (Number c)) size))
bytes_move f fs m os h r x c size n k v op.Add means canonical is lt i e =
    let all = few c size n is lt in
    let word : of_two reg.Add (r x) (plain (c * size % 4294967296)) ≡ after (by_bytes op.Add x n ∷ []) r a0 = λ j. record { bits = sum (r x).bits (all j); tag = tag_stays (r x).tag j } in
    subst (λ w. Means f m.objects w (placed v (target v (number_of k c) size))) word (sum_of f fs m os h (r x) c size (number_of k c) (congruent k c canonical) v means e)
bytes_move f fs m os h r x c size n k v op.Sub means canonical is lt i e =
    let all = few c size n is lt in
    let fewer = less_bytes (r x).bits n lt in
    let first : of_two reg.Sub (r x) (plain (c * size % 4294967296)) ≡ of_two reg.Sub (r x) (plain n) = λ j. of_two reg.Sub (r x) (plain (all j)) in
    let word : of_two reg.Sub (r x) (plain n) ≡ after (by_bytes op.Sub x n ∷ []) r a0 = λ j. record { bits = sym fewer j; tag = (r x).tag } in
    subst (λ w. Means f m.objects w (placed v (target v (neg_ℤ (number_of k c)) size))) (first ∙ word) (difference_of f fs m os h (r x) c size (number_of k c) (congruent k c canonical) v means e)
bytes_move f fs m os h r x c size n k v _ means canonical is lt i e = absurd i
