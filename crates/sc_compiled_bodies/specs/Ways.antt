-- Inside: plumbing, a representation, an invariant or a promise beside the claim (docs/TRUST.md).
-- Places of a function's text before its body and behind it, by the words in the registers: there the call has no whole frame.
use Rattle.std.specs.Prelude.{◌≡◌, ℕ, ◌+◌, ◌*◌, ◌/◌, ◌^◌, ◌<◌, List}
use Rattle.sc_base.specs.declared.memory.Word.{Word}
use Rattle.sc_isa.specs.declared.instruction.Instr.TheVariants.{Jalr, Lui}
use Rattle.sc_isa_image.specs.declared.image.Image.{Image}
use Rattle.sc_isa_image.specs.Stubs.{lower_of, stub_address, upper_of}
use Rattle.sc_meaning.specs.Expressions.{Answer}
use Rattle.sc_meaning.specs.World.{World}
use Rattle.sc_mixed.specs.Bridge.{with_registers}
use Rattle.sc_mixed.specs.declared.calls.Calls.{Calls}
use Rattle.sc_mixed.specs.declared.calls.Next.{Next}
use Rattle.sc_mixed.specs.declared.calls.Next.TheVariants.{Executes}
use Rattle.sc_mixed_means.specs.Stages.{Stage}
use Rattle.sc_compiled_values.specs.Straight.{IsFile, Words}
use Rattle.sc_compiled_expressions.specs.Instructions.{InstrAt}
use Rattle.sc_compiled_expressions.specs.Parts.{Family, MeansAt}

-- the two words of the stub of a function in object form lead to its text
pub record LeadsTo (i : Image) (number at : ℕ) : Type 0 where
  pub first : InstrAt i (stub_address number) (Lui 6 (upper_of at))
  pub second : InstrAt i (stub_address number + 4) (Jalr 0 6 (lower_of at))
  pub even : at / 2 * 2 ≡ at
  pub near : at < 2 ^ 32

-- what comes next means a family where the registers hold these words, and another instruction is next
abbrev pub MeansHolding : Stage → ℕ → Next → ℕ → Words → Calls → World → World → Family Answer → Type 0
MeansHolding s n next pc f c w v r = (zs : List Word) → IsFile zs f → MeansAt s n next (with_registers (record { pc = pc; words = zs }) c) w v r

abbrev pub MeansWith : Stage → ℕ → ℕ → Words → Calls → World → World → Family Answer → Type 0
MeansWith s n pc f c w v r = MeansHolding s n Executes pc f c w v r
