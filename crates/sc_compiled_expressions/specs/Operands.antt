-- Inside: plumbing, a representation, an invariant or a promise beside the claim (docs/TRUST.md).
-- When the code of operands leaves their words in registers: of a first one, of a right one that is fetched behind it, and of both.
use Rattle.std.specs.Prelude.{◌≡◌, ◌⊎◌, ℕ, ◌+◌, ◌*◌, ◌<◌, ◌==◌, false, List, length}
use Rattle.sc_core.specs.declared.expression.CoreExpr.{CoreExpr}
use Rattle.sc_emu.specs.Registers.{register}
use Rattle.sc_meaning.specs.Calls.{eval}
use Rattle.sc_meaning.specs.Expressions.{Env, valued}
use Rattle.sc_meaning.specs.Outcomes.{Done, Outcome, and_then}
use Rattle.sc_meaning.specs.Values.{Value}
use Rattle.sc_meaning.specs.Versions.{History}
use Rattle.sc_meaning.specs.World.{World}
use Rattle.sc_mixed.specs.declared.calls.Calls.{Calls}
use Rattle.sc_mixed_means.specs.Stages.{Stage}
use Rattle.sc_gen_code.specs.declared.style.Spot.{Spot}
use Rattle.sc_gen_code.specs.Code.{Code}
use Rattle.sc_compiled_expressions.specs.Parts.{Meets}
use Rattle.sc_compiled_expressions.specs.Standing.{Home, Keeps, MeansIn, Stands}
use Rattle.sc_compiled_expressions.specs.Good.{IsDeeper, IsPlaced}
use Rattle.sc_compiled_expressions.specs.Direct.{Fetched}

-- the word of a value is in a register, at the end of the code
pub record Operand (home : Home) (at : Spot) (r end : ℕ) (c : Calls) (w : World) (s : Stage) (x : Value) (u : World) (d : Calls) (y : World) : Type 0 where
  pub there : d.regs.pc ≡ end
  pub word : MeansIn y (register d.regs r) x
  pub stands : Stands home s d y u
  pub keeps : Keeps home at c w d y

-- code leaves an expression's value in a register
abbrev pub GivesIn : Home → ℕ → ℕ → Code → CoreExpr → ℕ → Spot → Type 0
GivesIn home most deep code e r at = (bound : ℕ → ℕ) → IsDeeper deep bound → (s : Stage) (c : Calls) (w v : World) → IsPlaced home c.regs.pc code → Stands home s c w v →
    Meets most s (Operand home at r (c.regs.pc + 4 * length code) c w) c w v (λ h m. valued (eval (bound m) h) home.env e v)

-- and changes no other register but t0, and no memory
abbrev pub GivesBeside : Home → ℕ → ℕ → Code → CoreExpr → ℕ → Type 0
GivesBeside home most deep code e r = (bound : ℕ → ℕ) → IsDeeper deep bound → (s : Stage) (c : Calls) (w v : World) → IsPlaced home c.regs.pc code → Stands home s c w v →
    Meets most s (Fetched home r (c.regs.pc + 4 * length code) c w) c w v (λ h m. valued (eval (bound m) h) home.env e v)

-- two values, one behind the other
abbrev pub both_values : ℕ → History → Env → CoreExpr → CoreExpr → World → Outcome (Value × Value)
both_values n h env a b v = and_then (valued (eval n h) env a v) (λ x u. and_then (valued (eval n h) env b u) (λ y o. Done (x, y) o))

-- the words of both are in registers
pub record PairIn (home : Home) (at : Spot) (rx ry end : ℕ) (c : Calls) (w : World) (s : Stage) (xy : Value × Value) (u : World) (d : Calls) (y : World) : Type 0 where
  pub there : d.regs.pc ≡ end
  pub left : MeansIn y (register d.regs rx) xy.0
  pub right : MeansIn y (register d.regs ry) xy.1
  pub stands : Stands home s d y u
  pub keeps : Keeps home at c w d y

abbrev pub GivesPair : Home → ℕ → ℕ → Code → CoreExpr → CoreExpr → ℕ → ℕ → Spot → Type 0
GivesPair home most deep code a b rx ry at = (bound : ℕ → ℕ) → IsDeeper deep bound → (s : Stage) (c : Calls) (w v : World) → IsPlaced home c.regs.pc code → Stands home s c w v →
    Meets most s (PairIn home at rx ry (c.regs.pc + 4 * length code) c w) c w v (λ h m. both_values (bound m) h home.env a b v)

-- a register that stays while another one gets a word
abbrev pub IsApart : ℕ → ℕ → Type 0
IsApart r q = (r < 32) × ((r == 5) ≡ false) × (((r == q) ≡ false) ⊎ (r ≡ 0))
