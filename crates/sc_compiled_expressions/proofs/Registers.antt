-- Code on registers alone goes on with the words that it computes: the laws on operators speak of these words.
use Rattle.std.proofs.Common.{◌≡◌, ℕ, zero, ◌+◌, ◌*◌, ◌^◌, ◌<◌, ◌==◌, Bool, true, false, if◌then◌else◌, List, [], ◌∷◌, length, Option, Some, None, refl, sym, ap, subst, ◌∙◌, arith}
use Rattle.std.proofs.lemmas.Bool.Decides.{nat_tests}
use Rattle.std.specs.Prelude.{slice_get, slice_index_or}
use Rattle.sc_base.specs.declared.memory.Word.{Word}
use Rattle.sc_isa.specs.declared.instruction.Instr.TheVariants.{Lui, Auipc, Jal, Jalr, Branch, Load, Store, Imm, Reg, Ecall, Fence}
use Rattle.sc_emu.specs.Operations.{bits_of, of_two, plain, with_constant}
use Rattle.sc_emu.specs.Registers.{AreRegisters, register, with_word}
use Rattle.sc_meaning.specs.Expressions.{Answer}
use Rattle.sc_meaning.specs.World.{World}
use Rattle.sc_mixed.specs.Bridge.{with_registers}
use Rattle.sc_mixed.specs.declared.calls.Calls.{Calls}
use Rattle.sc_mixed_means.specs.Stages.{Stage}
use Rattle.sc_gen_code.specs.declared.symbolic.Symbolic.TheVariants.{Plain, Upper, Lower, Call}
use Rattle.sc_gen_code.specs.Code.{Code}
use Rattle.sc_compiled_values.specs.Straight.{IsFile, Words, after, with}
use Rattle.sc_compiled_expressions.specs.Parts.{End, Family, Leading, Means, Meets}
use Rattle.sc_compiled_expressions.specs.Placing.{computed}
use Rattle.sc_compiled_expressions.proofs.Behind.{behind_straight}
use Rattle.sc_compiled_expressions.proofs.Straight.{straight_means}
use Rattle.sc_compiled_expressions.specs.Standing.{Home, Stands}
use Rattle.sc_compiled_expressions.specs.Good.{IsPlaced}
use Rattle.sc_compiled_expressions.proofs.Standing.{has_code, memory_of}
use Rattle.sc_compiled_expressions.specs.Straights.{AreStraight}
use Rattle.sc_compiled_values.proofs.Steps.{file_with}

-- ---- the file of registers

-- what is computed of a file is the file of what stands in it after
pub computes_file : (code : Code) (ws : List Word) (r : Words) → AreStraight code → IsFile ws r → (zs : List Word) × (computed code ws ≡ Some zs) × IsFile zs (after code r)
computes_file [] ws r p h = (ws, refl, h)
computes_file (Plain (Lui rd upper) ∷ xs) ws r p h = computes_file xs (with_word ws rd (plain (upper * 2 ^ 12))) (with r rd (plain (upper * 2 ^ 12))) p.1 (file_with ws r rd (plain (upper * 2 ^ 12)) p.0 h)
computes_file (Plain (Imm op rd a z) ∷ xs) ws r p h =
    let x : Word = with_constant op (slice_index_or ws a (plain 0)) (bits_of z) in
    let is : x ≡ with_constant op (r a) (bits_of z) = ap (λ y. with_constant op y (bits_of z)) (h.each a p.0.1) in
    computes_file xs (with_word ws rd x) (with r rd (with_constant op (r a) (bits_of z))) p.1 (subst (λ y. IsFile (with_word ws rd y) (with r rd (with_constant op (r a) (bits_of z)))) (sym is) (file_with ws r rd (with_constant op (r a) (bits_of z)) p.0.0 h))
computes_file (Plain (Reg op rd a b) ∷ xs) ws r p h =
    let x : Word = of_two op (slice_index_or ws a (plain 0)) (slice_index_or ws b (plain 0)) in
    let is : x ≡ of_two op (r a) (r b) = ap (λ y. of_two op y (slice_index_or ws b (plain 0))) (h.each a p.0.1) ∙ ap (λ y. of_two op (r a) y) (h.each b p.0.2) in
    computes_file xs (with_word ws rd x) (with r rd (of_two op (r a) (r b))) p.1 (subst (λ y. IsFile (with_word ws rd y) (with r rd (of_two op (r a) (r b)))) (sym is) (file_with ws r rd (of_two op (r a) (r b)) p.0.0 h))
computes_file (Plain (Auipc rd upper) ∷ xs) ws r p h = absurd p.0
computes_file (Plain (Jal rd offset) ∷ xs) ws r p h = absurd p.0
computes_file (Plain (Jalr rd base offset) ∷ xs) ws r p h = absurd p.0
computes_file (Plain (Branch op a b offset) ∷ xs) ws r p h = absurd p.0
computes_file (Plain (Load op rd base offset) ∷ xs) ws r p h = absurd p.0
computes_file (Plain (Store op value base offset) ∷ xs) ws r p h = absurd p.0
computes_file (Plain Ecall ∷ xs) ws r p h = absurd p.0
computes_file (Plain Fence ∷ xs) ws r p h = absurd p.0
computes_file (Upper t ∷ xs) ws r p h = absurd p.0
computes_file (Lower what t ∷ xs) ws r p h = absurd p.0
computes_file (Call t ∷ xs) ws r p h = absurd p.0

-- ---- register 0 stays

zero_by : (b d : Bool) (rd : ℕ) (x y : Word) → (rd == 0) ≡ b → (0 == rd) ≡ d → (if b then x else if d then y else x) ≡ x
zero_by true d rd x y e f = refl
zero_by false false rd x y e f = refl
zero_by false true rd x y e f = absurd (no_zero rd e f)
  where
    no_zero : (n : ℕ) → (n == 0) ≡ false → (0 == n) ≡ true → ⊥
    no_zero n e f = grind (arith, nat_tests, e, f)

with_zero : (r : Words) (rd : ℕ) (w : Word) → with r rd w 0 ≡ r 0
with_zero r rd w = zero_by (rd == 0) (0 == rd) rd (r 0) w refl refl

pub after_zero : (code : Code) (r : Words) → AreStraight code → after code r 0 ≡ r 0
after_zero [] r p = refl
after_zero (Plain (Lui rd upper) ∷ xs) r p = after_zero xs (with r rd (plain (upper * 2 ^ 12))) p.1 ∙ with_zero r rd (plain (upper * 2 ^ 12))
after_zero (Plain (Imm op rd a z) ∷ xs) r p = after_zero xs (with r rd (with_constant op (r a) (bits_of z))) p.1 ∙ with_zero r rd (with_constant op (r a) (bits_of z))
after_zero (Plain (Reg op rd a b) ∷ xs) r p = after_zero xs (with r rd (of_two op (r a) (r b))) p.1 ∙ with_zero r rd (of_two op (r a) (r b))
after_zero (Plain (Auipc rd upper) ∷ xs) r p = absurd p.0
after_zero (Plain (Jal rd offset) ∷ xs) r p = absurd p.0
after_zero (Plain (Jalr rd base offset) ∷ xs) r p = absurd p.0
after_zero (Plain (Branch op a b offset) ∷ xs) r p = absurd p.0
after_zero (Plain (Load op rd base offset) ∷ xs) r p = absurd p.0
after_zero (Plain (Store op value base offset) ∷ xs) r p = absurd p.0
after_zero (Plain Ecall ∷ xs) r p = absurd p.0
after_zero (Plain Fence ∷ xs) r p = absurd p.0
after_zero (Upper t ∷ xs) r p = absurd p.0
after_zero (Lower what t ∷ xs) r p = absurd p.0
after_zero (Call t ∷ xs) r p = absurd p.0

abbrev word_of : Option Word → Word
word_of None = plain 0
word_of (Some x) = x

pub zero_there : (zs : List Word) → length zs ≡ 32 → slice_index_or zs 0 (plain 0) ≡ plain 0 → slice_get zs 0 ≡ Some (plain 0)
zero_there [] n e = absurd (omega (arith, n))
zero_there (x ∷ xs) n e = ap Some e

index_zero : (ws : List Word) (x : Word) → slice_get ws 0 ≡ Some x → slice_index_or ws 0 (plain 0) ≡ x
index_zero [] x e = absurd (cc (e))
index_zero (y ∷ ys) x e = ap word_of e

-- ---- a part behind straight code

pub straight_goes : {X : Type 0} (home : Home) (most : ℕ) (s : Stage) (E : End X) (c : Calls) (w v : World) (r : Family X) → Stands home s c w v → (code : Code) → AreStraight code → IsPlaced home c.regs.pc code → Leading v r
    → ((zs : List Word) → AreRegisters zs → ((j : ℕ) → j < 32 → slice_index_or zs j (plain 0) ≡ after code (register c.regs) j) → Meets most s E (with_registers (record { pc = c.regs.pc + 4 * length code; words = zs }) c) w v r)
    → Meets most s E c w v r
straight_goes home most s E c w v r st code p pl leads go =
    let file : IsFile c.regs.words (register c.regs) = record { count = st.regs.count; each = λ n lt. refl } in
    let got = computes_file code c.regs.words (register c.regs) p file in
    let are : AreRegisters got.0 = record { count = got.2.count; zero = zero_there got.0 got.2.count (got.2.each 0 (omega arith) ∙ after_zero code (register c.regs) p ∙ index_zero c.regs.words (plain 0) st.regs.zero) } in
    behind_straight most s st.value E code c w v got.0 r (memory_of home s c w v st) (has_code home s c w v st c.regs.pc code pl) got.1 leads (go got.0 are got.2.each)

-- the same of a place
pub straight_place : (home : Home) (s : Stage) (n : ℕ) (c : Calls) (w v : World) (r : Family Answer) → Stands home s c w v → (code : Code) → AreStraight code → IsPlaced home c.regs.pc code → Leading v r
    → ((zs : List Word) → AreRegisters zs → ((j : ℕ) → j < 32 → slice_index_or zs j (plain 0) ≡ after code (register c.regs) j) → Means s n (with_registers (record { pc = c.regs.pc + 4 * length code; words = zs }) c) w v r) → Means s n c w v r
straight_place home s n c w v r st code p pl leads go =
    let file : IsFile c.regs.words (register c.regs) = record { count = st.regs.count; each = λ n lt. refl } in
    let got = computes_file code c.regs.words (register c.regs) p file in
    let are : AreRegisters got.0 = record { count = got.2.count; zero = zero_there got.0 got.2.count (got.2.each 0 (omega arith) ∙ after_zero code (register c.regs) p ∙ index_zero c.regs.words (plain 0) st.regs.zero) } in
    straight_means s st.value n code c w v got.0 r (memory_of home s c w v st) (has_code home s c w v st c.regs.pc code pl) got.1 leads (go got.0 are got.2.each)
