-- A part behind code that goes one way.
use Rattle.std.proofs.Common.{◌≡◌, ℕ, ◌+◌, ◌*◌, ◌^◌, ◌<◌, true, List, length, Some}
use Rattle.std.specs.Prelude.{ℤ, pos, if◌then◌else◌, nat_lt}
use Rattle.sc_base.specs.declared.memory.Word.{Word}
use Rattle.sc_isa.specs.declared.instruction.BranchOp.{BranchOp}
use Rattle.sc_isa.specs.declared.instruction.LoadOp.{LoadOp}
use Rattle.sc_isa.specs.declared.instruction.Instr.TheVariants.{Jal, Branch, Load}
use Rattle.sc_emu.specs.Operations.{bits_of, is_taken, load_size, loaded, sum}
use Rattle.sc_emu.specs.Registers.{register, with_word}
use Rattle.sc_mem.specs.Flat.{raw_read}
use Rattle.sc_meaning.specs.World.{World}
use Rattle.sc_gen_code.specs.declared.symbolic.Target.{Target}
use Rattle.sc_gen_code.specs.Code.{Code}
use Rattle.sc_mixed.specs.Bridge.{with_registers}
use Rattle.sc_mixed.specs.declared.calls.Calls.{Calls}
use Rattle.sc_mixed_means.specs.Stages.{Stage}
use Rattle.sc_compiled_expressions.specs.Instructions.{HasMemory, InstrAt, goes_to}
use Rattle.sc_compiled_expressions.specs.Placing.{CodeAt, computed}
use Rattle.sc_compiled_expressions.specs.Parts.{End, Family, Leading, Meets, followed}
use Rattle.sc_compiled_expressions.proofs.Joining.{leading_then}
use Rattle.sc_compiled_expressions.proofs.Straight.{load_means, over_means, skip_means, straight_means}

module _ (most : ℕ) (s : Stage) (value : Target → ℕ) {X : Type 0} (E : End X) where
  pub behind_straight : (code : Code) (c : Calls) (w v : World) (ws : List Word) (r : Family X) → HasMemory w → CodeAt s.image value c.regs.pc code → computed code c.regs.words ≡ Some ws → Leading v r
      → Meets most s E (with_registers (record { pc = c.regs.pc + 4 * length code; words = ws }) c) w v r → Meets most s E c w v r
  behind_straight code c w v ws r mem has e leads p = λ rest on n le after. straight_means s value n code c w v ws (followed r rest) mem has e (leading_then v r rest leads on) (p rest on n le after)

  pub behind_load : (op : LoadOp) (rd base : ℕ) (offset : ℤ) (c : Calls) (w v : World) (z : Word) (r : Family X) (mem : HasMemory w) → InstrAt s.image c.regs.pc (Load op rd base offset)
      → raw_read mem.memory.flat (sum (register c.regs base).bits (bits_of offset)) (load_size op) ≡ Some z → Leading v r
      → Meets most s E (with_registers (record { pc = c.regs.pc + 4; words = with_word c.regs.words rd (loaded op z) }) c) w v r → Meets most s E c w v r
  behind_load op rd base offset c w v z r mem at found leads p = λ rest on n le after. load_means s value n op rd base offset c w v z (followed r rest) mem at found (leading_then v r rest leads on) (p rest on n le after)

  pub behind_skip : (op : BranchOp) (a b : ℕ) (c : Calls) (w v : World) (r : Family X) → HasMemory w → InstrAt s.image c.regs.pc (Branch op a b (pos 8)) → c.regs.pc + 8 < 2 ^ 32 → Leading v r
      → Meets most s E (with_registers (goes_to (if is_taken op (register c.regs a).bits (register c.regs b).bits then c.regs.pc + 8 else c.regs.pc + 4) c.regs) c) w v r → Meets most s E c w v r
  behind_skip op a b c w v r mem at near leads p = λ rest on n le after. skip_means s value n op a b c w v (followed r rest) mem at near (leading_then v r rest leads on) (p rest on n le after)

  pub behind_over : (k : ℕ) (c : Calls) (w v : World) (r : Family X) → HasMemory w → InstrAt s.image c.regs.pc (Jal 0 (if nat_lt k 262143 then pos (4 * k + 4) else pos 0)) → nat_lt k 262143 ≡ true → c.regs.pc + (4 * k + 4) < 2 ^ 32 → Leading v r
      → Meets most s E (with_registers (goes_to (c.regs.pc + (4 * k + 4)) c.regs) c) w v r → Meets most s E c w v r
  behind_over k c w v r mem at short near leads p = λ rest on n le after. over_means s value n k c w v (followed r rest) mem at short near (leading_then v r rest leads on) (p rest on n le after)
