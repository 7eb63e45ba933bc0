-- Inside: plumbing, a representation, an invariant or a promise beside the claim (docs/TRUST.md).
-- When the code of an expression does what the expression means: of its answer, of a value, and of the truth of a condition.
use Rattle.std.specs.Prelude.{◌≡◌, ℕ, ◌+◌, ◌*◌, ◌^◌, ◌<◌, ◌≤◌, ◌++◌, Bool, true, false, not, if◌then◌else◌, length, pos}
use Rattle.sc_isa.specs.declared.instruction.BranchOp.{BranchOp}
use Rattle.sc_isa.specs.declared.instruction.BranchOp.TheVariants.{Beq, Bne}
use Rattle.sc_isa.specs.declared.instruction.Instr.TheVariants.{Branch}
use Rattle.sc_core.specs.declared.expression.CoreExpr.{CoreExpr}
use Rattle.sc_core.specs.Types.{type_of}
use Rattle.sc_emu.specs.Registers.{register}
use Rattle.sc_meaning.specs.Accesses.{tested}
use Rattle.sc_meaning.specs.Calls.{eval}
use Rattle.sc_meaning.specs.Expressions.{Answer, Plain, valued}
use Rattle.sc_meaning.specs.Outcomes.{and_then}
use Rattle.sc_meaning.specs.Values.{Value}
use Rattle.sc_meaning.specs.World.{World}
use Rattle.sc_mixed.specs.declared.calls.Calls.{Calls}
use Rattle.sc_mixed_means.specs.Stages.{Stage}
use Rattle.sc_gen_code.specs.declared.style.Spot.{Spot}
use Rattle.sc_gen_code.specs.declared.symbolic.Symbolic.{Symbolic}
use Rattle.sc_gen_code.specs.declared.symbolic.Symbolic.TheVariants as symbolic
use Rattle.sc_gen_code.specs.Code.{Code}
use Rattle.sc_gen_expr.specs.Expressions.{expression_code, test_code}
use Rattle.sc_compiled_frames.specs.Means.{IsWord}
use Rattle.sc_compiled_expressions.specs.Parts.{Meets}
use Rattle.sc_compiled_expressions.specs.Standing.{Home, Keeps, MeansIn, Stands, stub, table}

-- code is the part of the text that stands at an address, within the reach of a jump
pub record IsPlaced (home : Home) (pc : ℕ) (code : Code) : Type 0 where
  pub before : Code
  pub behind : Code
  pub part : home.text ≡ before ++ (code ++ behind)
  pub there : pc ≡ home.base + 4 * length before
  pub short : length code < 262143
  pub near : pc + 4 * length code + 8 < 2 ^ 32

-- the word of an answer is in a0, at the end of the code
pub record Answered (home : Home) (at : Spot) (end : ℕ) (c : Calls) (w : World) (s : Stage) (a : Answer) (u : World) (d : Calls) (y : World) : Type 0 where
  pub there : d.regs.pc ≡ end
  pub word : IsWord (stub y) (table y) a (register d.regs 10)
  pub stands : Stands home s d y u
  pub keeps : Keeps home at c w d y

-- the word of a value
pub record Valued (home : Home) (at : Spot) (end : ℕ) (c : Calls) (w : World) (s : Stage) (x : Value) (u : World) (d : Calls) (y : World) : Type 0 where
  pub there : d.regs.pc ≡ end
  pub word : MeansIn y (register d.regs 10) x
  pub stands : Stands home s d y u
  pub keeps : Keeps home at c w d y

-- an answer that is a value, with its word
pub record AnsweredPlain (home : Home) (at : Spot) (end : ℕ) (c : Calls) (w : World) (s : Stage) (a : Answer) (u : World) (d : Calls) (y : World) : Type 0 where
  pub of : Value
  pub is : a ≡ Plain of
  pub valued : Valued home at end c w s of u d y

-- the next word is left out where the truth is the one that is said
abbrev pub is_skipped : Bool → Bool → Bool
is_skipped true holds = holds
is_skipped false holds = not holds

abbrev pub told_at : Bool → Bool → ℕ → ℕ
told_at sense holds end = if is_skipped sense holds then end + 4 else end

pub record Told (home : Home) (at : Spot) (sense : Bool) (end : ℕ) (c : Calls) (w : World) (s : Stage) (holds : Bool) (u : World) (d : Calls) (y : World) : Type 0 where
  pub there : d.regs.pc ≡ told_at sense holds end
  pub stands : Stands home s d y u
  pub keeps : Keeps home at c w d y

-- the branch that leaves out the next word where a0 is not 0, or where it is
abbrev pub skip_op : Bool → BranchOp
skip_op true = Bne
skip_op false = Beq

abbrev pub skips : Bool → Symbolic
skips sense = symbolic.Plain (Branch (skip_op sense) 10 0 (pos 8))

-- the meaning looks so much deeper than it is asked
abbrev pub IsDeeper : ℕ → (ℕ → ℕ) → Type 0
IsDeeper deep bound = (m : ℕ) → deep + m ≤ bound m

abbrev pub code_of : Home → CoreExpr → Spot → Code
code_of home e at = expression_code home.style home.autos e at

abbrev pub test_of : Home → Bool → CoreExpr → Spot → Code
test_of home sense e at = test_code home.style home.autos sense e at

-- the code of an expression gives the word of what it answers; of a value; of what is always one
abbrev pub GivesAnswer : Home → ℕ → ℕ → CoreExpr → Spot → Type 0
GivesAnswer home most deep e at = (bound : ℕ → ℕ) → IsDeeper deep bound → (s : Stage) (c : Calls) (w v : World) → IsPlaced home c.regs.pc (code_of home e at) → Stands home s c w v →
    Meets most s (Answered home at (c.regs.pc + 4 * length (code_of home e at)) c w) c w v (λ h m. eval (bound m) h home.env e v)

abbrev pub GivesValue : Home → ℕ → ℕ → CoreExpr → Spot → Type 0
GivesValue home most deep e at = (bound : ℕ → ℕ) → IsDeeper deep bound → (s : Stage) (c : Calls) (w v : World) → IsPlaced home c.regs.pc (code_of home e at) → Stands home s c w v →
    Meets most s (Valued home at (c.regs.pc + 4 * length (code_of home e at)) c w) c w v (λ h m. valued (eval (bound m) h) home.env e v)

abbrev pub GivesPlain : Home → ℕ → ℕ → CoreExpr → Spot → Type 0
GivesPlain home most deep e at = (bound : ℕ → ℕ) → IsDeeper deep bound → (s : Stage) (c : Calls) (w v : World) → IsPlaced home c.regs.pc (code_of home e at) → Stands home s c w v →
    Meets most s (AnsweredPlain home at (c.regs.pc + 4 * length (code_of home e at)) c w) c w v (λ h m. eval (bound m) h home.env e v)

-- the code of a condition tells its truth
abbrev pub TellsTruth : Home → ℕ → ℕ → CoreExpr → Spot → Type 0
TellsTruth home most deep e at = (sense : Bool) (bound : ℕ → ℕ) → IsDeeper deep bound → (s : Stage) (c : Calls) (w v : World) → IsPlaced home c.regs.pc (test_of home sense e at) → Stands home s c w v →
    Meets most s (Told home at sense (c.regs.pc + 4 * length (test_of home sense e at)) c w) c w v (λ h m. and_then (valued (eval (bound m) h) home.env e v) (tested (type_of e)))
