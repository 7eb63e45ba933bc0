-- A step of the machine at an instruction on registers alone.
use Rattle.std.proofs.Common.{◌≡◌, ◌≢◌, ℕ, zero, suc, ◌*◌, ◌^◌, ◌<◌, ◌==◌, Bool, true, false, if◌then◌else◌, List, [], ◌∷◌, length, refl, sym, ap, ◌∙◌, subst, arith}
use Rattle.std.specs.Prelude.{slice_index_or, slice_set}
use Rattle.std.proofs.lemmas.List.{length-set}
use Rattle.std.proofs.lemmas.Bool.Decides.{nat_tests}
use Rattle.sc_base.specs.declared.memory.Word.{Word}
use Rattle.sc_isa.specs.declared.instruction.Instr.{Instr}
use Rattle.sc_isa.specs.declared.instruction.Instr.TheVariants.{Lui, Auipc, Jal, Jalr, Branch, Load, Store, Imm, Reg, Ecall, Fence}
use Rattle.sc_emu.specs.Operations.{bits_of, of_two, plain, with_constant}
use Rattle.sc_emu.specs.Registers.{register, with_word}
use Rattle.sc_emu.specs.Machine.{State, next_of, with_registers}
use Rattle.sc_compiled_values.specs.Straight.{Words, with, after_one, IsFile, IsStraight, Steps}

at_same : (ws : List Word) (i : ℕ) (w d : Word) → i < length ws → slice_index_or (slice_set ws i w) i d ≡ w
at_same [] i w d lt = absurd (omega (arith, lt))
at_same (x ∷ ws) zero w d lt = refl
at_same (x ∷ ws) (suc i) w d lt = at_same ws i w d (omega (arith, lt))

at_other : (ws : List Word) (i j : ℕ) (w d : Word) → j ≢ i → slice_index_or (slice_set ws i w) j d ≡ slice_index_or ws j d
at_other [] i j w d ne = refl
at_other (x ∷ ws) zero zero w d ne = absurd (ne refl)
at_other (x ∷ ws) zero (suc j) w d ne = refl
at_other (x ∷ ws) (suc i) zero w d ne = refl
at_other (x ∷ ws) (suc i) (suc j) w d ne = at_other ws i j w d (λ e. ne (ap suc e))

same_place : (n m : ℕ) → (n == m) ≡ true → n ≡ m
same_place n m e = grind (arith, nat_tests, e)

other_place : (n m : ℕ) → (n == m) ≡ false → n ≢ m
other_place n m e q = grind (arith, nat_tests, e, q)

other_words : (words : List Word) (r : Words) (rd n : ℕ) (w : Word) (b : Bool) → (n == rd) ≡ b → rd < length words → slice_index_or words n (plain 0) ≡ r n → slice_index_or (slice_set words rd w) n (plain 0) ≡ (if b then w else r n)
other_words words r rd n w true e lt h = ap (λ k. slice_index_or (slice_set words rd w) k (plain 0)) (same_place n rd e) ∙ at_same words rd w (plain 0) lt
other_words words r rd n w false e lt h = at_other words rd n w (plain 0) (other_place n rd e) ∙ h

file_by : (b : Bool) (words : List Word) (r : Words) (rd : ℕ) (w : Word) → rd < 32 → IsFile words r → IsFile (if b then words else slice_set words rd w) (λ n. if b then r n else if n == rd then w else r n)
file_by true words r rd w lt h = h
file_by false words r rd w lt h =
    let count = h.count in
    record {
      count = length-set words rd w ∙ h.count;
      each = λ n small. other_words words r rd n w (n == rd) refl (omega (arith, lt, count)) (h.each n small);
    }

pub file_with : (words : List Word) (r : Words) (rd : ℕ) (w : Word) → rd < 32 → IsFile words r → IsFile (with_word words rd w) (with r rd w)
file_with words r rd w lt h = file_by (rd == 0) words r rd w lt h

pub straight_steps : (i : Instr) (s : State) (r : Words) → IsStraight i → IsFile s.registers.words r → Steps i s (after_one i r)
straight_steps (Lui rd upper) s r lt h =
    record { next = with_registers (next_of s) (with_word s.registers.words rd (plain (upper * 2 ^ 12))) s; goes = refl; memory = refl; at = refl; holds = file_with s.registers.words r rd (plain (upper * 2 ^ 12)) lt h }
straight_steps (Imm op rd a z) s r lt h =
    record {
      next = with_registers (next_of s) (with_word s.registers.words rd (with_constant op (register s.registers a) (bits_of z))) s;
      goes = refl;
      memory = refl;
      at = refl;
      holds = subst (λ x. IsFile (with_word s.registers.words rd (with_constant op x (bits_of z))) (with r rd (with_constant op (r a) (bits_of z)))) (sym (h.each a lt.1)) (file_with s.registers.words r rd (with_constant op (r a) (bits_of z)) lt.0 h);
    }
straight_steps (Reg op rd a b) s r lt h =
    record {
      next = with_registers (next_of s) (with_word s.registers.words rd (of_two op (register s.registers a) (register s.registers b))) s;
      goes = refl;
      memory = refl;
      at = refl;
      holds = subst (λ x. IsFile (with_word s.registers.words rd (of_two op x (register s.registers b))) (with r rd (of_two op (r a) (r b)))) (sym (h.each a lt.1))
          (subst (λ x. IsFile (with_word s.registers.words rd (of_two op (r a) x)) (with r rd (of_two op (r a) (r b)))) (sym (h.each b lt.2)) (file_with s.registers.words r rd (of_two op (r a) (r b)) lt.0 h));
    }
straight_steps (Auipc rd upper) s r lt h = absurd lt
straight_steps (Jal rd offset) s r lt h = absurd lt
straight_steps (Jalr rd base offset) s r lt h = absurd lt
straight_steps (Branch op a b offset) s r lt h = absurd lt
straight_steps (Load op rd base offset) s r lt h = absurd lt
straight_steps (Store op value base offset) s r lt h = absurd lt
straight_steps Ecall s r lt h = absurd lt
straight_steps Fence s r lt h = absurd lt
