-- The frame is taken: sp goes down by its cost.
use Rattle.std.specs.Prelude.{neg_ℤ, ◌||◌}
use Rattle.std.proofs.Common.{◌≡◌, ℕ, ◌+◌, ◌-◌, ◌*◌, ◌^◌, ◌<◌, ◌≤◌, ◌==◌, Bool, true, false, if◌then◌else◌, nat_lt, nat_le, [], ◌∷◌, ◌++◌, length, pos, refl, ap, ap₂, ◌∙◌, arith}
use Rattle.std.proofs.lemmas.Bool.Decides.{nat_tests}
use Rattle.std.proofs.lemmas.Int.{ints, of_z-to_z}
use Rattle.std.specs.Int.{w32, cast_signed}
use Rattle.sc_base.specs.declared.memory.Word.{Word}
use Rattle.sc_isa.specs.declared.instruction.Instr.TheVariants.{Lui}
use Rattle.sc_isa.specs.declared.instruction.ImmOp.TheVariants as imm
use Rattle.sc_isa.specs.declared.instruction.RegOp.TheVariants as reg
use Rattle.sc_isa_image.specs.Stubs.{lower_of, upper_of}
use Rattle.sc_isa_image.proofs.Leads.{parts-add}
use Rattle.sc_emu.specs.Operations.{bits_of, difference, of_two, plain, sum, with_constant}
use Rattle.sc_meaning.specs.Expressions.{Answer}
use Rattle.sc_meaning.specs.World.{World}
use Rattle.sc_mixed.specs.declared.calls.Calls.{Calls}
use Rattle.sc_mixed_means.specs.Stages.{Stage}
use Rattle.sc_gen_code.specs.declared.symbolic.Symbolic.TheVariants.{Plain as Word_of}
use Rattle.sc_gen_code.specs.declared.symbolic.Target.{Target}
use Rattle.sc_gen_code.specs.Code.{Code, addi, apply}
use Rattle.sc_gen_body.specs.Functions.{frame_taken}
use Rattle.sc_compiled_values.specs.Straight.{Words, after, with}
use Rattle.sc_compiled_expressions.specs.Instructions.{HasMemory}
use Rattle.sc_compiled_expressions.specs.Placing.{CodeAt}
use Rattle.sc_compiled_expressions.specs.Parts.{Family, Leading}
use Rattle.sc_compiled_bodies.specs.Ways.{MeansWith}
use Rattle.sc_compiled_bodies.proofs.Files.{straight_file}

abbrev li_by : Bool → ℕ → Code
li_by b n = if b then addi 5 0 (cast_signed w32 n) ∷ [] else Word_of (Lui 5 (upper_of n)) ∷ addi 5 5 (lower_of n) ∷ []

abbrev taken : Bool → Bool → ℕ → Code
taken b d cost = if b then addi 2 2 (neg_ℤ (pos cost)) ∷ [] else li_by d cost ++ apply reg.Sub 2 2 5 ∷ []

less : (sp n : ℕ) → n ≤ sp → sp < 2 ^ 32 → sum sp (bits_of (neg_ℤ (pos n))) ≡ sp - n
less sp n le lt = grind (arith, ints, nat_tests, le, lt)

down : (sp n : ℕ) → n ≤ sp → sp < 2 ^ 32 → difference sp n ≡ sp - n
down sp n le lt = omega (arith, le, lt)

from_zero : (k : ℕ) → k < 2 ^ 32 → sum 0 k ≡ k
from_zero k lt = omega (arith, lt)

small : (sp n : ℕ) → n ≤ sp → sp < 2 ^ 32 → n < 2 ^ 32
small sp n le lt = omega (arith, le, lt)

other : (b : Bool) (u v : Word) → b ≡ false → (if b then u else v) ≡ v
other false u v e = refl
other true u v e = absurd (cc (e))

not_two : (j : ℕ) → (10 + j == 2) ≡ false
not_two j = grind (arith, nat_tests)

not_five : (j : ℕ) → (10 + j == 5) ≡ false
not_five j = grind (arith, nat_tests)

keeps_two : (g : Words) (x : Word) (j : ℕ) → with g 2 x (10 + j) ≡ g (10 + j)
keeps_two g x j = other (10 + j == 2) x (g (10 + j)) (not_two j)

keeps_five : (g : Words) (x : Word) (j : ℕ) → with g 5 x (10 + j) ≡ g (10 + j)
keeps_five g x j = other (10 + j == 5) x (g (10 + j)) (not_five j)

module _ (s : Stage) (value : Target → ℕ) (n : ℕ) (c : Calls) (w v : World) (r : Family Answer) (mem : HasMemory w) (leads : Leading v r) where
  by_cases : (b d : Bool) (cost pc sp : ℕ) (g : Words) → CodeAt s.image value pc (taken b d cost) → g 0 ≡ plain 0 → g 2 ≡ plain sp → cost ≤ sp → sp < 2 ^ 32
      → ((h : Words) → h 0 ≡ plain 0 → h 1 ≡ g 1 → h 2 ≡ plain (sp - cost) → ((j : ℕ) → h (10 + j) ≡ g (10 + j)) → MeansWith s n (pc + 4 * length (taken b d cost)) h c w v r) → MeansWith s n pc g c w v r
  by_cases true d cost pc sp g has z is le lt go =
      straight_file s value n c w v r mem leads (addi 2 2 (neg_ℤ (pos cost)) ∷ []) pc g ((omega arith, omega arith), tt) has
      (go (after (addi 2 2 (neg_ℤ (pos cost)) ∷ []) g) z refl (ap (λ y. with_constant imm.Addi y (bits_of (neg_ℤ (pos cost)))) is ∙ ap plain (less sp cost le lt)) (λ j. keeps_two g (with_constant imm.Addi (g 2) (bits_of (neg_ℤ (pos cost)))) j))
  by_cases false true cost pc sp g has z is le lt go =
      let code : Code = addi 5 0 (cast_signed w32 cost) ∷ apply reg.Sub 2 2 5 ∷ [] in
      straight_file s value n c w v r mem leads code pc g ((omega arith, omega arith), ((omega arith, omega arith, omega arith), tt)) has
      (go (after code g) z refl (ap₂ (of_two reg.Sub) is (ap₂ (with_constant imm.Addi) z (of_z-to_z w32 cost (small sp cost le lt)) ∙ ap plain (from_zero cost (small sp cost le lt))) ∙ ap plain (down sp cost le lt)) (λ j.
      let a : Word = with_constant imm.Addi (g 0) (bits_of (cast_signed w32 cost)) in
      keeps_two (with g 5 a) (of_two reg.Sub (g 2) a) j ∙ keeps_five g a j))
  by_cases false false cost pc sp g has z is le lt go =
      let code : Code = Word_of (Lui 5 (upper_of cost)) ∷ addi 5 5 (lower_of cost) ∷ apply reg.Sub 2 2 5 ∷ [] in
      straight_file s value n c w v r mem leads code pc g (omega arith, ((omega arith, omega arith), ((omega arith, omega arith, omega arith), tt))) has
      (go (after code g) z refl (ap₂ (of_two reg.Sub) is (ap plain (parts-add cost (small sp cost le lt))) ∙ ap plain (down sp cost le lt)) (λ j.
      let a : Word = plain (upper_of cost * 2 ^ 12) in
      let b : Word = with_constant imm.Addi a (bits_of (lower_of cost)) in
      keeps_two (with (with g 5 a) 5 b) (of_two reg.Sub (g 2) b) j ∙ keeps_five (with g 5 a) b j ∙ keeps_five g a j))

  pub frame_goes : (cost pc sp : ℕ) (g : Words) → CodeAt s.image value pc (frame_taken cost) → g 0 ≡ plain 0 → g 2 ≡ plain sp → cost ≤ sp → sp < 2 ^ 32
      → ((h : Words) → h 0 ≡ plain 0 → h 1 ≡ g 1 → h 2 ≡ plain (sp - cost) → ((j : ℕ) → h (10 + j) ≡ g (10 + j)) → MeansWith s n (pc + 4 * length (frame_taken cost)) h c w v r) → MeansWith s n pc g c w v r
  frame_goes cost = by_cases (nat_le cost 2048) (nat_lt cost 2048 || nat_le 4294965248 cost) cost
