-- Yardstick: to be compared with what it restates (docs/TRUST.md).
-- A go of a run of both forms, or a step of one instruction, as the theorem on such runs has it: moves one after another from the place where the run
-- stands.
use Rattle.std.specs.Prelude.{◌≡◌, ℕ, ◌≤◌, List, Err, Option, Some, None}
use Rattle.sc_interp.specs.declared.stepped.Shown.{Shown}
use Rattle.sc_interp.specs.declared.stepped.Shown.TheVariants.{Nothing}
use Rattle.sc_interp_access.specs.declared.ended.Ended.TheVariants.{Exit}
use Rattle.sc_interp_change_laws.specs.Showing.{IsEvent}
use Rattle.sc_isa_image.specs.declared.image.Image.{Image}
use Rattle.sc_meaning.specs.Versions.{Text}
use Rattle.sc_meaning.specs.World.{World, ComesBack, pass}
use Rattle.sc_mixed.specs.Goes.{GoesTo}
use Rattle.sc_mixed.specs.Machine.{Moves}
use Rattle.sc_mixed.specs.Single.{StepsOneTo}
use Rattle.sc_mixed.specs.Standing.{IsLost, Standing, ended_by, standing_on, standing_over, status_at}
use Rattle.sc_mixed.specs.declared.broken.Break.{Break}
use Rattle.sc_mixed.specs.declared.calls.Calls.{Calls}
use Rattle.sc_mixed.specs.declared.calls.Next.{Next}
use Rattle.sc_mixed.specs.declared.ended.MixedEnd.TheVariants.{Meant}
use Rattle.sc_mixed_means.specs.Runs.{Gone, Place}
use Rattle.sc_mixed_means.specs.Stages.{Build}
use Rattle.sc_words.specs.declared.stop.StopAt.{StopAt}
use Rattle.sc_words.specs.declared.stop.Walk.{Walk}
use Rattle.sc_world.specs.declared.halt.Halt.{Halt}
use Rattle.sc_world.specs.declared.halt.Halt.TheVariants as halt

-- the run stands at a place, with what its last move showed, if no go has looked at it yet
abbrev pub showing_at : Image → Place → Shown → Standing
showing_at i p now = standing_on i p.calls p.world p.next now

-- where a go leaves it: what was shown was looked at
abbrev pub standing_at : Image → Place → Standing
standing_at i p = showing_at i p Nothing

-- a go that halted at an event did so at what the last move showed
abbrev pub HaltsAtShown : Halt → Shown → Type 0
HaltsAtShown halt.Entered now = IsEvent now
HaltsAtShown halt.AtLine now = IsEvent now
HaltsAtShown halt.Ended now = ⊥
HaltsAtShown (halt.Paused turns) now = Unit {0}

-- How a go leaves a run, with this halt: at a place to which further moves lead; or over, as the entry's call came back, or as a move broke off; or no room
-- was left, and nothing is known of it.
pub data Went (first : Place) (b : Build) (bs : List Build) (c : Build) (cs : List Build) (k : ℕ) (h : Halt) (n : Standing) : Type 0 where
  stays_on : (j : ℕ) (q : Place) → k ≤ j → Gone first b bs j q c cs → HaltsAtShown h q.now → n ≡ standing_at c.image q → Went first b bs c cs k h n
  comes_back : (j : ℕ) (q : Place) (status : ℕ) → k ≤ j → Gone first b bs j q c cs → status_at q.next q.calls ≡ Some status → n ≡ standing_over c.image q.calls (pass ComesBack q.world) (Meant (Exit status)) → Went first b bs c cs k h n
  breaks_off : (j : ℕ) (q : Place) (broken : Break) (after : Next) (d : Calls) (u : World) → k ≤ j → Gone first b bs j q c cs → Moves c.texts c.image q.next q.calls q.world (Err broken) after d u → n ≡ standing_over c.image d u (ended_by broken) → Went first b bs c cs k h n
  finds_no_room : IsLost n → Went first b bs c cs k h n

-- A step of one instruction may leave a run where nothing halts it, as a pause does.
abbrev pub halt_of : Option Halt → Halt
halt_of None = halt.Paused 0
halt_of (Some h) = h

-- One go of a run of these texts, or one step of an instruction, from one place to another, by which it halted so, if at all.
pub data Walks (texts : List Text) (stops : List StopAt) (m : Standing) (h : Option Halt) (n : Standing) : Type 0 where
  goes_by : (walk : Walk) (turns : ℕ) (at : Halt) → h ≡ Some at → GoesTo texts stops walk turns m at n → Walks texts stops m h n
  steps_by : StepsOneTo texts stops m h n → Walks texts stops m h n

-- So either leaves a run that stood at a place of the theorem.
abbrev pub WalksAreMoves : Type 0
WalksAreMoves =
    (first : Place) (b : Build) (bs : List Build) (c : Build) (cs : List Build) (k : ℕ) (p : Place) (now : Shown) → Gone first b bs k p c cs → (IsEvent now → now ≡ p.now) →
    (stops : List StopAt) (h : Option Halt) (n : Standing) → Walks c.texts stops (showing_at c.image p now) h n → Went first b bs c cs k (halt_of h) n
