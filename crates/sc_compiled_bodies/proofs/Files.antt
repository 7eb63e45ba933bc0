-- Straight code, a load, a jump by a register and an `ecall`, by the words that the registers hold.
use Rattle.std.proofs.Common.{◌≡◌, ℕ, ◌+◌, ◌*◌, ◌/◌, ◌<◌, length, Some, refl, sym, ap, subst, ◌∙◌, arith}
use Rattle.std.specs.Prelude.{ℤ}
use Rattle.sc_base.specs.declared.memory.Word.{Word}
use Rattle.sc_isa.specs.declared.instruction.Instr.TheVariants.{Ecall, Jalr, Load}
use Rattle.sc_isa.specs.declared.instruction.LoadOp.TheVariants.{Lw}
use Rattle.sc_emu.specs.Operations.{bits_of, sum}
use Rattle.sc_emu.specs.Registers.{AreRegisters, Registers, register, with_word}
use Rattle.sc_mem.specs.Flat.{raw_read}
use Rattle.sc_meaning.specs.Expressions.{Answer}
use Rattle.sc_meaning.specs.World.{World}
use Rattle.sc_mixed.specs.Bridge.{with_registers}
use Rattle.sc_mixed.specs.declared.calls.Calls.{Calls}
use Rattle.sc_mixed.specs.declared.calls.Next.TheVariants.{Serves}
use Rattle.sc_mixed_means.specs.Stages.{Stage}
use Rattle.sc_gen_code.specs.declared.symbolic.Target.{Target}
use Rattle.sc_gen_code.specs.Code.{Code}
use Rattle.sc_compiled_values.specs.Straight.{IsFile, Words, after, with}
use Rattle.sc_compiled_expressions.specs.Instructions.{HasMemory, InstrAt, links}
use Rattle.sc_compiled_expressions.specs.Placing.{CodeAt}
use Rattle.sc_compiled_expressions.specs.Parts.{Family, Leading, Means, MeansAt}
use Rattle.sc_compiled_expressions.proofs.Moving.{quiet_means}
use Rattle.sc_compiled_expressions.proofs.Straight.{load_means, near_next, straight_means}
use Rattle.sc_compiled_expressions.proofs.Ways.{computes_one_way}
use Rattle.sc_compiled_expressions.specs.Straights.{AreStraight}
use Rattle.sc_compiled_expressions.proofs.Registers.{computes_file}
use Rattle.sc_compiled_bodies.proofs.Asking.{ecall_means}
use Rattle.sc_compiled_bodies.specs.Ways.{MeansHolding, MeansWith}
use Rattle.sc_compiled_values.proofs.Steps.{file_with}

pub file_of : (c : Calls) → AreRegisters c.regs.words → IsFile c.regs.words (register c.regs)
file_of c are = record { count = are.count; each = λ n lt. refl }

module _ (s : Stage) (value : Target → ℕ) (n : ℕ) (c : Calls) (w v : World) (r : Family Answer) (mem : HasMemory w) (leads : Leading v r) where
  pub starts : (pc : ℕ) (f : Words) → c.regs.pc ≡ pc → IsFile c.regs.words f → MeansWith s n pc f c w v r → Means s n c w v r
  starts pc f there file go = subst (λ p. Means s n (with_registers (record { pc = p; words = c.regs.words }) c) w v r) (sym there) (go c.regs.words file)

  pub straight_file : (code : Code) (pc : ℕ) (f : Words) → AreStraight code → CodeAt s.image value pc code → MeansWith s n (pc + 4 * length code) (after code f) c w v r → MeansWith s n pc f c w v r
  straight_file code pc f p has go = λ zs file.
      let got = computes_file code zs f p file in
      straight_means s value n code (with_registers (record { pc = pc; words = zs }) c) w v got.0 r mem has got.1 leads (go got.0 got.2)

  pub load_file : (rd base : ℕ) (offset : ℤ) (pc : ℕ) (f : Words) (x : Word) → rd < 32 → base < 32 → InstrAt s.image pc (Load Lw rd base offset) → raw_read mem.memory.flat (sum (f base).bits (bits_of offset)) 4 ≡ Some x → MeansWith s n (pc + 4) (with f rd x) c w v r → MeansWith s n pc f c w v r
  load_file rd base offset pc f x small low at found go = λ zs file.
      load_means s value n Lw rd base offset (with_registers (record { pc = pc; words = zs }) c) w v x r mem at
      (ap (λ (z : Word). raw_read mem.memory.flat (sum z.bits (bits_of offset)) 4) (file.each base low) ∙ found) leads (go (with_word zs rd x) (file_with zs f rd x small file))

  pub jump_file : (base : ℕ) (offset : ℤ) (pc to : ℕ) (f : Words) → base < 32 → InstrAt s.image pc (Jalr 0 base offset) → sum (f base).bits (bits_of offset) / 2 * 2 ≡ to → MeansWith s n to f c w v r → MeansWith s n pc f c w v r
  jump_file base offset pc to f low at is go = λ zs file.
      let now : Registers = record { pc = pc; words = zs } in
      let next : Registers = links 0 (sum (register now base).bits (bits_of offset) / 2 * 2) now in
      quiet_means s n (with_registers now c) next w v r leads (computes_one_way s.image (Jalr 0 base offset) now next w mem at refl)
      (subst (λ p. Means s n (with_registers (record { pc = p; words = zs }) c) w v r) (sym (ap (λ (z : Word). sum z.bits (bits_of offset) / 2 * 2) (file.each base low) ∙ is)) (go zs file))

  pub ecall_file : (pc k : ℕ) (f : Words) → InstrAt s.image pc Ecall → (f 5).bits ≡ k → MeansHolding s n (Serves k) (pc + 4) f c w v r → MeansWith s n pc f c w v r
  ecall_file pc k f at is go = λ zs file.
      let now : Registers = record { pc = pc; words = zs } in
      ecall_means s n (with_registers now c) w v r mem at leads
      (subst (λ p. MeansAt s n (Serves (register now 5).bits) (with_registers (record { pc = p; words = zs }) c) w v r) (sym (near_next pc at.near))
      (subst (λ j. MeansAt s n (Serves j) (with_registers (record { pc = pc + 4; words = zs }) c) w v r) (sym (ap (λ (z : Word). z.bits) (file.each 5 (omega arith)) ∙ is)) (go zs file)))
