-- Yardstick: to be compared with what it restates (docs/TRUST.md).
-- The calls that are active after some notes, and what stands last among these.
use Rattle.std.specs.Prelude.{Bool, true, false, List, [], ◌∷◌, Option, Some, None, fold}
use Rattle.sc_base.specs.declared.memory.Form.{Form}
use Rattle.sc_base.specs.declared.note.Note.{Note}
use Rattle.sc_base.specs.declared.note.Note.TheVariants.{Enter, Leave, Put, Birth, Death, Copy, SetReg}
use Rattle.sc_record.specs.Recorded.{recorded}

-- the forms of the active calls, the innermost first
abbrev pub left : List Form → List Form
left [] = []
left (f ∷ frames) = frames

abbrev pub frames_with : List Form → Note → List Form
frames_with frames (Enter fun form) = form ∷ frames
frames_with frames (Leave fun) = left frames
frames_with frames _ = frames

abbrev pub frames_after : List Note → List Form
frames_after notes = fold frames_with [] (recorded notes)

-- the form of the innermost call
abbrev pub innermost : List Form → Option Form
innermost [] = None
innermost (f ∷ frames) = Some f

abbrev pub form_after : List Note → Option Form
form_after notes = innermost (frames_after notes)

-- the last note, and the last one that sets no register
abbrev pub last_note : List Note → Option Note
last_note notes = fold (λ last n. Some n) None notes

abbrev pub unless_register : Option Note → Note → Option Note
unless_register last (SetReg r word) = last
unless_register last n = Some n

abbrev pub before_registers : List Note → Option Note
before_registers notes = fold unless_register None notes

-- a change of memory alone
abbrev pub is_of_memory : Note → Bool
is_of_memory (Put place size word) = true
is_of_memory (Birth id size kind base) = true
is_of_memory (Death id) = true
is_of_memory (Copy to from size) = true
is_of_memory _ = false

abbrev pub has_entered : Note → Bool
has_entered (Enter fun form) = true
has_entered _ = false
