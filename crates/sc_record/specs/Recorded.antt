-- Yardstick: to be compared with what it restates (docs/TRUST.md).
-- The notes of a run are those from the last start on.
use Rattle.std.specs.Prelude.{Bool, true, false, if◌then◌else◌, List, [], ◌∷◌, fold}
use Rattle.std.specs.List.{list_any}
use Rattle.sc_base.specs.declared.note.Note.{Note}
use Rattle.sc_base.specs.declared.note.Note.TheVariants.{Start}
use Rattle.sc_emu.specs.Machine.{State}
use Rattle.sc_record.specs.Applied.{apply, begun}

abbrev pub is_start : Note → Bool
is_start (Start stack heap) = true
is_start _ = false

abbrev pub has_start : List Note → Bool
has_start notes = list_any is_start notes

-- the notes from the last start on, none where there is no start
abbrev pub recorded : List Note → List Note
recorded [] = []
recorded (n ∷ notes) = if has_start notes then recorded notes else if is_start n then n ∷ notes else []

-- the state after some notes of one run
abbrev pub state_from : State → List Note → State
state_from s notes = fold apply s notes

-- the state after a list of notes, which may be of several runs
abbrev pub state_after : List Note → State
state_after notes = state_from (begun 0 0) (recorded notes)
