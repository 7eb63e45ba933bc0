-- Code that only computes, one word behind the other; a load; jumps, and words that are left out.
use Rattle.std.proofs.Common.{◌≡◌, ℕ, ◌+◌, ◌*◌, ◌^◌, ◌<◌, true, List, [], ◌∷◌, ◌++◌, length, Option, Some, None, refl, sym, ap, subst, ◌∙◌, arith}
use Rattle.std.proofs.lemmas.Int.{ints}
use Rattle.std.proofs.lemmas.Bool.Decides.{nat_tests}
use Rattle.std.specs.Prelude.{ℤ, pos, if◌then◌else◌, nat_lt, option_and_then}
use Rattle.sc_base.specs.declared.memory.Word.{Word}
use Rattle.sc_isa.specs.declared.instruction.Instr.{Instr}
use Rattle.sc_isa.specs.declared.instruction.Instr.TheVariants.{Lui, Auipc, Jal, Jalr, Branch, Load, Store, Imm, Reg, Ecall, Fence}
use Rattle.sc_isa.specs.declared.instruction.BranchOp.{BranchOp}
use Rattle.sc_isa.specs.declared.instruction.LoadOp.{LoadOp}
use Rattle.sc_isa_image.specs.declared.image.Image.{Image}
use Rattle.sc_emu.specs.Operations.{bits_of, is_taken, load_size, loaded, sum}
use Rattle.sc_emu.specs.Registers.{Registers, register, with_word}
use Rattle.sc_mem.specs.Flat.{raw_read}
use Rattle.sc_meaning.specs.Expressions.{Answer}
use Rattle.sc_meaning.specs.World.{World}
use Rattle.sc_gen_code.specs.declared.symbolic.Symbolic.{Symbolic}
use Rattle.sc_gen_code.specs.declared.symbolic.Symbolic.TheVariants.{Plain, Upper, Lower, Call}
use Rattle.sc_gen_code.specs.declared.symbolic.Target.{Target}
use Rattle.sc_gen_code.specs.Code.{Code}
use Rattle.sc_mixed.specs.Bridge.{with_registers}
use Rattle.sc_mixed.specs.declared.calls.Calls.{Calls}
use Rattle.sc_mixed_means.specs.Stages.{Stage}
use Rattle.sc_compiled_expressions.specs.Instructions.{HasMemory, InstrAt, goes_to, makes, writes}
use Rattle.sc_compiled_expressions.specs.Placing.{CodeAt, WordAt, computed, computes}
use Rattle.sc_compiled_expressions.specs.Parts.{Family, Leading, Means}
use Rattle.sc_compiled_expressions.proofs.Ways.{computes_one_way, loads_one_way}
use Rattle.sc_compiled_expressions.proofs.Moving.{quiet_means}

-- ---- front and back of code

module _ (i : Image) (value : Target → ℕ) where
  pub has_front : (pc : ℕ) (a b : Code) → CodeAt i value pc (a ++ b) → CodeAt i value pc a
  has_front pc [] b h = tt
  has_front pc (x ∷ a) b h = (h.0, has_front (pc + 4) a b h.1)

  pub has_back : (pc : ℕ) (a b : Code) → CodeAt i value pc (a ++ b) → CodeAt i value (pc + 4 * length a) b
  has_back pc [] b h = let e : pc ≡ pc + 4 * 0 = omega arith in subst (λ n. CodeAt i value n b) e h
  has_back pc (x ∷ a) b h =
      let e : pc + 4 + 4 * length a ≡ pc + 4 * length (x ∷ a) = omega arith in
      subst (λ n. CodeAt i value n b) e (has_back (pc + 4) a b h.1)

-- ---- one word that computes

pub near_next : (pc : ℕ) → pc + 4 < 2 ^ 32 → sum pc 4 ≡ pc + 4
near_next pc le = omega (arith, le)

-- an instruction that computes, with what it makes
pub record Computing (i : Image) (r : Registers) (ws : List Word) : Type 0 where
  pub ins : Instr
  pub at : InstrAt i r.pc ins
  pub gives : makes ins r ≡ Some (record { pc = r.pc + 4; words = ws })

abbrev words_or : List Word → Option (List Word) → List Word
words_or d None = d
words_or d (Some ws) = ws

abbrev at_with : ℕ → List Word → Registers
at_with pc ws = record { pc = pc; words = ws }

made : (r : Registers) (now : List Word) (ws : List Word) → r.pc + 4 < 2 ^ 32 → Some now ≡ Some ws → Some (at_with (sum r.pc 4) now) ≡ Some (at_with (r.pc + 4) ws)
made r now ws near e = ap (λ p. Some (at_with p now)) (near_next r.pc near) ∙ ap (λ l. Some (at_with (r.pc + 4) l)) (ap (words_or now) e)

one_word : (i : Image) (value : Target → ℕ) (x : Symbolic) (r : Registers) (ws : List Word) → WordAt i value r.pc x → computes x r.words ≡ Some ws → Computing i r ws
one_word i value (Plain (Lui rd upper)) r ws at e = record { ins = Lui rd upper; at = at; gives = made r _ ws at.near e }
one_word i value (Plain (Imm op rd a constant)) r ws at e = record { ins = Imm op rd a constant; at = at; gives = made r _ ws at.near e }
one_word i value (Plain (Reg op rd a b)) r ws at e = record { ins = Reg op rd a b; at = at; gives = made r _ ws at.near e }
one_word i value (Plain (Auipc rd upper)) r ws at e = absurd (cc (e))
one_word i value (Plain (Jal rd offset)) r ws at e = absurd (cc (e))
one_word i value (Plain (Jalr rd base offset)) r ws at e = absurd (cc (e))
one_word i value (Plain (Branch op a b offset)) r ws at e = absurd (cc (e))
one_word i value (Plain (Load op rd base offset)) r ws at e = absurd (cc (e))
one_word i value (Plain (Store op rd base offset)) r ws at e = absurd (cc (e))
one_word i value (Plain Ecall) r ws at e = absurd (cc (e))
one_word i value (Plain Fence) r ws at e = absurd (cc (e))
one_word i value (Upper t) r ws at e = absurd (cc (e))
one_word i value (Lower what t) r ws at e = absurd (cc (e))
one_word i value (Call t) r ws at e = absurd (cc (e))

module _ (s : Stage) (value : Target → ℕ) (n : ℕ) where
  -- behind one word that computes
  first_word : (x : Symbolic) (xs : Code) (c : Calls) (w v : World) (ws : List Word) (r : Family Answer) → HasMemory w → WordAt s.image value c.regs.pc x → Leading v r → (o : Option (List Word)) → computes x c.regs.words ≡ o → option_and_then (computed xs) o ≡ Some ws
      → ((l : List Word) → computed xs l ≡ Some ws → Means s n (with_registers (record { pc = c.regs.pc + 4; words = l }) c) w v r) → Means s n c w v r
  first_word x xs c w v ws r mem has leads None g f go = absurd (cc (f))
  first_word x xs c w v ws r mem has leads (Some l) g f go =
      let one = one_word s.image value x c.regs l has g in
      quiet_means s n c (record { pc = c.regs.pc + 4; words = l }) w v r leads (computes_one_way s.image one.ins c.regs (record { pc = c.regs.pc + 4; words = l }) w mem one.at one.gives) (go l f)

  -- behind code that only computes
  pub straight_means : (code : Code) (c : Calls) (w v : World) (ws : List Word) (r : Family Answer) → HasMemory w → CodeAt s.image value c.regs.pc code → computed code c.regs.words ≡ Some ws → Leading v r
      → Means s n (with_registers (record { pc = c.regs.pc + 4 * length code; words = ws }) c) w v r → Means s n c w v r
  straight_means [] c w v ws r mem has e leads p =
      let pc : c.regs.pc + 4 * 0 ≡ c.regs.pc = omega arith in
      subst (λ (l : List Word). Means s n (with_registers (record { pc = c.regs.pc; words = l }) c) w v r) (sym (ap (words_or c.regs.words) e))
      (subst (λ k. Means s n (with_registers (record { pc = k; words = ws }) c) w v r) pc p)
  straight_means (x ∷ xs) c w v ws r mem has e leads p =
      let there : c.regs.pc + 4 * length (x ∷ xs) ≡ c.regs.pc + 4 + 4 * length xs = omega arith in
      first_word x xs c w v ws r mem has.0 leads (computes x c.regs.words) refl e
      (λ l f. straight_means xs (with_registers (record { pc = c.regs.pc + 4; words = l }) c) w v ws r mem has.1 f leads
      (subst (λ k. Means s n (with_registers (record { pc = k; words = ws }) c) w v r) there p))

  -- behind a load that finds a word
  pub load_means : (op : LoadOp) (rd base : ℕ) (offset : ℤ) (c : Calls) (w v : World) (z : Word) (r : Family Answer) (mem : HasMemory w) → InstrAt s.image c.regs.pc (Load op rd base offset)
      → raw_read mem.memory.flat (sum (register c.regs base).bits (bits_of offset)) (load_size op) ≡ Some z → Leading v r
      → Means s n (with_registers (record { pc = c.regs.pc + 4; words = with_word c.regs.words rd (loaded op z) }) c) w v r → Means s n c w v r
  load_means op rd base offset c w v z r mem at found leads p =
      quiet_means s n c (writes rd (loaded op z) c.regs) w v r leads (loads_one_way s.image op rd base offset c.regs w mem z at found)
      (subst (λ p. Means s n (with_registers (record { pc = p; words = with_word c.regs.words rd (loaded op z) }) c) w v r) (sym (near_next c.regs.pc at.near)) p)

  -- behind a branch: one word is left out, or none
  pub skip_means : (op : BranchOp) (a b : ℕ) (c : Calls) (w v : World) (r : Family Answer) → HasMemory w → InstrAt s.image c.regs.pc (Branch op a b (pos 8)) → c.regs.pc + 8 < 2 ^ 32 → Leading v r
      → Means s n (with_registers (goes_to (if is_taken op (register c.regs a).bits (register c.regs b).bits then c.regs.pc + 8 else c.regs.pc + 4) c.regs) c) w v r → Means s n c w v r
  skip_means op a b c w v r mem at near leads p =
      let eight : sum c.regs.pc 8 ≡ c.regs.pc + 8 = omega (arith, near) in
      quiet_means s n c (goes_to (if is_taken op (register c.regs a).bits (register c.regs b).bits then sum c.regs.pc (bits_of (pos 8)) else sum c.regs.pc 4) c.regs) w v r leads
      (computes_one_way s.image (Branch op a b (pos 8)) c.regs (goes_to (if is_taken op (register c.regs a).bits (register c.regs b).bits then sum c.regs.pc (bits_of (pos 8)) else sum c.regs.pc 4) c.regs) w mem at refl)
      (subst (λ p. Means s n (with_registers (goes_to (if is_taken op (register c.regs a).bits (register c.regs b).bits then p else sum c.regs.pc 4) c.regs) c) w v r) (sym eight)
      (subst (λ p. Means s n (with_registers (goes_to (if is_taken op (register c.regs a).bits (register c.regs b).bits then c.regs.pc + 8 else p) c.regs) c) w v r) (sym (near_next c.regs.pc at.near)) p))

  -- behind a jump over words
  pub over_means : (k : ℕ) (c : Calls) (w v : World) (r : Family Answer) → HasMemory w → InstrAt s.image c.regs.pc (Jal 0 (if nat_lt k 262143 then pos (4 * k + 4) else pos 0)) → nat_lt k 262143 ≡ true → c.regs.pc + (4 * k + 4) < 2 ^ 32 → Leading v r
      → Means s n (with_registers (goes_to (c.regs.pc + (4 * k + 4)) c.regs) c) w v r → Means s n c w v r
  over_means k c w v r mem at short near leads p =
      let there : sum c.regs.pc (bits_of (pos (4 * k + 4))) ≡ c.regs.pc + (4 * k + 4) = reaches c.regs.pc k near in
      let jump : Jal 0 (if nat_lt k 262143 then pos (4 * k + 4) else pos 0) ≡ Jal 0 (pos (4 * k + 4)) = ap (λ t. Jal 0 (if t then pos (4 * k + 4) else pos 0)) short in
      quiet_means s n c (goes_to (sum c.regs.pc (bits_of (pos (4 * k + 4)))) c.regs) w v r leads
      (computes_one_way s.image (Jal 0 (pos (4 * k + 4))) c.regs (goes_to (sum c.regs.pc (bits_of (pos (4 * k + 4)))) c.regs) w mem (subst (λ j. InstrAt s.image c.regs.pc j) jump at) refl)
      (subst (λ m. Means s n (with_registers (goes_to m c.regs) c) w v r) (sym there) p)
    where
      reaches : (pc k : ℕ) → pc + (4 * k + 4) < 2 ^ 32 → sum pc (bits_of (pos (4 * k + 4))) ≡ pc + (4 * k + 4)
      reaches pc k near = grind (arith, ints, nat_tests, near)
