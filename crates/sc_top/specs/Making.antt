-- Yardstick: to be compared with what it restates (docs/TRUST.md).
-- A session over a made program, and the line that tells of it.
use Rattle.std.specs.Prelude.{◌≡◌, ◌⊎◌, ℕ, List, [], Option, Some}
use Rattle.std.specs.Io.KnownBytes.{Appends}
use Rattle.sc_outside.specs.Stored.{FileMap}
use Rattle.sc_outside.specs.Streams.{AppendsSome}
use Rattle.sc_session.specs.declared.limits.Limits.{Limits}
use Rattle.sc_session.specs.Transcript.{moment, empty}
use Rattle.sc_workload.specs.Made.{made_commands, made_folder, made_line}
use Rattle.sc_top.specs.Meaning.{EndedAsMeant}
use Rattle.sc_top.specs.Sessions.{Ended}
use Rattle.sc_top.specs.declared.status.Status.{Status}
use Rattle.sc_top.specs.declared.status.Status.TheVariants as status

-- A session with the made commands and files, with these limits and so many probes, is done with this text.
pub record IsAnsweredWith (limits : Limits) (probes count : ℕ) (answered : List ℕ) : Type 0 where
  pub folder : FileMap
  pub files : (name : List ℕ) → folder name ≡ made_folder count count name
  pub after : Option FileMap × ℕ
  pub ended : Ended (Some (made_commands count)) (Some []) (Some answered) (moment (empty limits probes) (Some folder) 0) after status.Done
  pub meant : EndedAsMeant (Some (made_commands count)) (Some []) (Some answered) (moment (empty limits probes) (Some folder) 0) after status.Done

-- the line was written, or some of it from the front
abbrev pub Tells : Limits → ℕ → ℕ → Option (List ℕ) → Option (List ℕ) → Type 0
Tells limits probes count old new = (answered : List ℕ) × IsAnsweredWith limits probes count answered × Appends old new (made_line count answered)

abbrev pub TellsSome : Limits → ℕ → ℕ → Option (List ℕ) → Option (List ℕ) → Type 0
TellsSome limits probes count old new = (answered : List ℕ) × IsAnsweredWith limits probes count answered × AppendsSome old new (made_line count answered)

-- how telling of a made program ended; where memory ran out, perhaps before the line was begun
abbrev pub IsMade : Limits → ℕ → ℕ → Option (List ℕ) → Option (List ℕ) → Status → Type 0
IsMade limits probes count old new status.Done = Tells limits probes count old new
IsMade limits probes count old new status.WriteFault = TellsSome limits probes count old new
IsMade limits probes count old new status.NoMemory = Appends old new [] ⊎ TellsSome limits probes count old new
IsMade limits probes count old new _ = ⊥
