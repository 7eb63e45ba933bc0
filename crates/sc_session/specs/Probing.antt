-- Yardstick: to be compared with what it restates (docs/TRUST.md).
-- What `machine`, `report` and `drop` answer, and what is handed on of a run. What the registers hold is not said here.
use Rattle.std.specs.Prelude.{◌≡◌, ◌⊎◌, ℕ, ◌-◌, List, Option, Some, None, true}
use Rattle.sc_interp_world.specs.Told.{TellsBehind}
use Rattle.sc_interp_world.specs.declared.account.Taken.{Taken}
use Rattle.sc_interp_world.specs.declared.recorder.Machine.{Machine}
use Rattle.sc_session_forms.specs.Machines.{machine_lines}
use Rattle.sc_words.specs.declared.answer.Answer.{Answer}
use Rattle.sc_words.specs.declared.answer.Answer.TheVariants as answer
use Rattle.sc_meaning.specs.World.{World}
use Rattle.sc_world.specs.Standing.{world_in}
use Rattle.sc_session.specs.Plain.{Plain}
use Rattle.sc_session.specs.declared.state.State.{State}
use Rattle.sc_session.specs.declared.state.State.TheVariants as state

-- registers, and a count of instructions
abbrev pub ShowsMachine : Answer → Type 0
ShowsMachine (answer.Shown lines) = (m : Machine) × (lines ≡ machine_lines m)
ShowsMachine answer.NoMemory = Unit {0}
ShowsMachine _ = ⊥

-- a report of the probe with this number; its text is said where the probes are (sc_top)
abbrev pub Reports : ℕ → Answer → Type 0
Reports k (answer.Reported n text) = n ≡ k
Reports k answer.NoMemory = Unit {0}
Reports k _ = ⊥

-- one probe fewer
abbrev pub without_probe : Plain → Plain
without_probe session = record session { probes = session.probes - 1 }

abbrev pub Drops : ℕ → Plain → Answer → Plain → Type 0
Drops k old (answer.Dropped n) new = (n ≡ k) × (new ≡ without_probe old)
Drops k old answer.NoMemory new = new ≡ old
Drops k old _ new = ⊥

-- the world of a run that stays, where it is known
abbrev pub staying : State → Option World
staying (state.Stopped run) = world_in run
staying (state.Paused run) = world_in run
staying (state.StoppedMixed run) = Some run.world
staying (state.PausedMixed run) = Some run.world
staying state.Idle = None
staying state.Ended = None

-- what is handed on of a run that stays is the record of all that happened in it, behind what was handed on before
abbrev pub IsRecordOf : State → Taken → Type 0
IsRecordOf s taken = (w : World) → staying s ≡ Some w → taken.whole ≡ true → TellsBehind taken.before taken.entries w.trail
