-- Inside: plumbing, a representation, an invariant or a promise beside the claim (docs/TRUST.md).
-- A word that waits in four bytes of the frame beside all objects.
use Rattle.std.specs.Prelude.{◌≡◌, ℕ, ◌+◌, ◌*◌, ◌<◌, ◌≤◌, ◌%◌, ◌^◌, length, slice_get}
use Rattle.sc_base.specs.declared.memory.Word.{Word}
use Rattle.sc_mem.specs.Words.{cells_of}
use Rattle.sc_emu.specs.Registers.{register}
use Rattle.sc_meaning.specs.World.{World}
use Rattle.sc_services.specs.Memory.{IsBareAt}
use Rattle.sc_mixed.specs.declared.calls.Calls.{Calls}
use Rattle.sc_mixed_means.specs.Stages.{Stage}
use Rattle.sc_mixed_means.specs.Waiting.{stored_in}
use Rattle.sc_gen_code.specs.declared.style.Spot.{Spot}
use Rattle.sc_compiled_frames.specs.Frames.{IsBelow, foot}
use Rattle.sc_meaning.specs.Outcomes.{Done}
use Rattle.sc_meaning.specs.Values.{Value}
use Rattle.sc_gen_code.specs.Code.{pop, push}
use Rattle.sc_compiled_expressions.specs.Parts.{Meets}
use Rattle.sc_compiled_expressions.specs.Good.{IsPlaced}
use Rattle.sc_compiled_expressions.specs.Standing.{Home, Keeps, MeansIn, Stands, slots}
use Rattle.sc_compiled_expressions.specs.Direct.{Fetched}

-- its four bytes stand there, and no object has one of them
abbrev pub WordWaits : World → ℕ → Word → Type 0
WordWaits w at x = (k : ℕ) → k < 4 → IsBareAt w (at + k) × (stored_in w.beside.memory (at + k) ≡ slice_get (cells_of 4 x) k)

-- an offset of the frame at which a temporary may wait
pub record IsTemporary (home : Home) (at : Spot) (t : ℕ) : Type 0 where
  pub even : t % 4 ≡ 0
  pub above : home.outgoing ≤ t
  pub free : at.low ≤ t
  pub room : t + 4 ≤ home.room
  pub frame : home.room + 4 ≤ home.cost
  pub under : IsBelow (slots home) t

-- behind the code that puts the word of a register there
pub record Pushed (home : Home) (at : Spot) (t end : ℕ) (c : Calls) (w : World) (s : Stage) (v : World) (d : Calls) (y : World) : Type 0 where
  pub there : d.regs.pc ≡ end
  pub stands : Stands home s d y v
  pub keeps : Keeps home at c w d y
  pub waits : WordWaits y (foot y + t) (register c.regs 10)

-- the code that puts a0 there
abbrev pub Pushes : Home → ℕ → Spot → ℕ → Type 0
Pushes home most at t = (s : Stage) (c : Calls) (w v : World) → Stands home s c w v → (x : Value) → MeansIn w (register c.regs 10) x → IsPlaced home c.regs.pc (push t) →
    Meets {X = Unit {0}} most s (λ q z u d y. Pushed home at t (c.regs.pc + 4 * length (push t)) c w q u d y) c w v (λ h m. Done tt v)

-- and that which takes a word from there into a register
abbrev pub Pops : Home → ℕ → ℕ → ℕ → Type 0
Pops home most t rd = (s : Stage) (c : Calls) (w v : World) → Stands home s c w v → (x : Word) → x.bits < 2 ^ 32 → WordWaits w (foot w + t) x → (val : Value) → MeansIn w x val → IsPlaced home c.regs.pc (pop rd t) →
    Meets {X = Value} most s (Fetched home rd (c.regs.pc + 4 * length (pop rd t)) c w) c w v (λ h m. Done val v)
