-- Inside: plumbing, a representation, an invariant or a promise beside the claim (docs/TRUST.md).
-- Arguments that are fetched, each into its own register.
use Rattle.std.specs.Prelude.{◌≡◌, ⊤, ℕ, ◌+◌, List, [], ◌∷◌, slice_get, Some}
use Rattle.sc_core.specs.declared.expression.CoreExpr.{CoreExpr}
use Rattle.sc_emu.specs.Registers.{register}
use Rattle.sc_meaning.specs.Values.{Value}
use Rattle.sc_meaning.specs.World.{World}
use Rattle.sc_mixed.specs.declared.calls.Calls.{Calls}
use Rattle.sc_compiled_expressions.specs.Standing.{Home, MeansIn}
use Rattle.sc_compiled_expressions.specs.Direct.{GivesLeaf}

-- the arguments from a number on are leaves
abbrev pub AreLeaves : Home → ℕ → ℕ → ℕ → List CoreExpr → Type 0
AreLeaves home most deep i [] = ⊤
AreLeaves home most deep i (e ∷ es) = GivesLeaf home most deep e (10 + i) × AreLeaves home most deep (i + 1) es

-- registers from a0 on hold the words of values
abbrev pub Hold : List Value → Calls → World → Type 0
Hold vs c w = (k : ℕ) (x : Value) → slice_get vs k ≡ Some x → MeansIn w (register c.regs (10 + k)) x
