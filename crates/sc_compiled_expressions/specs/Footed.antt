-- Inside: plumbing, a representation, an invariant or a promise beside the claim (docs/TRUST.md).
-- When code leaves the foot of a place or pointer in a register: its address less what the load or store behind it adds.
use Rattle.std.specs.Prelude.{◌≡◌, ℕ, ◌+◌, ◌*◌, ◌||◌, Bool, true, length, pos}
use Rattle.sc_base.specs.declared.memory.Word.{Word}
use Rattle.sc_core.specs.declared.expression.CoreExpr.{CoreExpr}
use Rattle.sc_types.specs.declared.ctype.CType.{CType}
use Rattle.sc_emu.specs.Operations.{bits_of, sum}
use Rattle.sc_emu.specs.Registers.{register}
use Rattle.sc_meaning.specs.Calls.{eval}
use Rattle.sc_meaning.specs.Expressions.{Answer, Env, valued}
use Rattle.sc_meaning.specs.Outcomes.{Done, Outcome, Over}
use Rattle.sc_meaning.specs.Values.{Value, is_pointer_type}
use Rattle.sc_meaning.specs.Versions.{History}
use Rattle.sc_meaning.specs.Violations.{is_plain}
use Rattle.sc_meaning.specs.World.{World}
use Rattle.sc_mixed.specs.declared.calls.Calls.{Calls}
use Rattle.sc_mixed_means.specs.Stages.{Stage}
use Rattle.sc_gen_code.specs.declared.style.Spot.{Spot}
use Rattle.sc_gen_code.specs.Code.{Code}
use Rattle.sc_gen_operand.specs.Places.{away}
use Rattle.sc_compiled_frames.specs.Means.{IsWord}
use Rattle.sc_compiled_expressions.specs.Parts.{Meets}
use Rattle.sc_compiled_expressions.specs.Standing.{Home, Keeps, Stands, stub, table}
use Rattle.sc_compiled_expressions.specs.Good.{IsDeeper, IsPlaced}

-- the foot is in a register, at the end of the code
pub record FootIn (home : Home) (at : Spot) (r n end : ℕ) (c : Calls) (w : World) (s : Stage) (a : Answer) (u : World) (d : Calls) (y : World) : Type 0 where
  pub there : d.regs.pc ≡ end
  pub place : Word
  pub word : IsWord (stub y) (table y) a place
  pub foot : sum (register d.regs r).bits (bits_of (pos n)) ≡ place.bits
  pub stands : Stands home s d y u
  pub keeps : Keeps home at c w d y

-- code that is made of an expression leaves its foot in a register
abbrev pub GivesFoot : Home → ℕ → ℕ → Code → CoreExpr → ℕ → Spot → Type 0
GivesFoot home most deep code e r at = (bound : ℕ → ℕ) → IsDeeper deep bound → (s : Stage) (c : Calls) (w v : World) → IsPlaced home c.regs.pc code → Stands home s c w v →
    Meets most s (FootIn home at r (away e) (c.regs.pc + 4 * length code) c w) c w v (λ h m. eval (bound m) h home.env e v)

-- a value that a type may have: of an integer type it is a number
abbrev pub may_be : CType → Value → Bool
may_be t v = is_pointer_type t || is_plain v

-- the values of an expression are such
abbrev pub AreOf : CType → Outcome Value → Type 0
AreOf t (Done v w) = may_be t v ≡ true
AreOf t (Over e) = Unit {0}

abbrev pub HasValuesOf : Env → CoreExpr → CType → Type 0
HasValuesOf env e t = (n : ℕ) (h : History) (v : World) → AreOf t (valued (eval n h) env e v)
