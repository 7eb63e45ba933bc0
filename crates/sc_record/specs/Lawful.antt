-- Yardstick: to be compared with what it restates (docs/TRUST.md).
-- Where a note may stand, by the image's words and the forms of functions at that time: instructions are those of the
-- image at the address of the next one, and what passes between the forms stands where a call or a service asks for it.
use Rattle.std.specs.Prelude.{◌≡◌, ◌⊎◌, ⊤, ℕ, true, false, List, [], ◌∷◌, ◌++◌, All, Option, Some, None}
use Rattle.std.specs.List.{list_any}
use Rattle.sc_base.specs.declared.memory.Form.{Form}
use Rattle.sc_base.specs.declared.memory.Form.TheVariants.{Source, Object}
use Rattle.sc_base.specs.declared.note.Note.{Note}
use Rattle.sc_base.specs.declared.note.Note.TheVariants.{Call, Back, Leave, Lib, Exec, SetReg, Tag}
use Rattle.sc_emu.specs.Registers.{register}
use Rattle.sc_record.specs.Recorded.{recorded, state_after}
use Rattle.sc_record.specs.Frames.{before_registers, form_after, has_entered, is_of_memory, last_note}

-- the instruction at the address of the next one, as the image has it
pub record IsNext (word : ℕ → Option ℕ) (before : List Note) (pc code : ℕ) : Type 0 where
  pub here : pc ≡ (state_after before).registers.pc
  pub there : word pc ≡ Some code

-- an `ecall` that asks for this service was the last note
pub record HasAsked (service : ℕ) (before : List Note) : Type 0 where
  pub pc : ℕ
  pub last : last_note before ≡ Some (Exec pc 0x73)
  pub number : (register (state_after before).registers 5).bits ≡ service

-- a call passes from source text to object text, or the run begins with `main` in object text
abbrev pub CallsObject : Option Form → List Note → Type 0
CallsObject (Some Source) before = ⊤
CallsObject (Some Object) before = ⊥
CallsObject None before = list_any has_entered (recorded before) ≡ false

-- a source function was left, and a library function was called and has only changed memory since
pub record HasLeft (fun : ℕ) (before : List Note) : Type 0 where
  pub earlier : List Note
  pub last : before ≡ earlier ++ Leave fun ∷ []
  pub source : form_after earlier ≡ Some Source

pub record HasServed (fun : ℕ) (before : List Note) : Type 0 where
  pub earlier : List Note
  pub changes : List Note
  pub last : before ≡ earlier ++ Lib fun ∷ changes
  pub only : All (λ n. is_of_memory n ≡ true) changes

-- the note that begins a group of notes on registers
abbrev pub IsPassage : Option Note → Type 0
IsPassage (Some (Call fun)) = ⊤
IsPassage (Some (Back fun)) = ⊤
IsPassage _ = ⊥

-- a note may stand behind these
abbrev pub IsLawful : (ℕ → Option ℕ) → (ℕ → Option Form) → List Note → Note → Type 0
IsLawful word forms before (Exec pc code) = IsNext word before pc code
IsLawful word forms before (Call fun) = (forms fun ≡ Some Object) × CallsObject (form_after before) before
IsLawful word forms before (Back fun) = (form_after before ≡ Some Object) × (HasLeft fun before ⊎ HasServed fun before)
IsLawful word forms before (SetReg r w) = IsPassage (before_registers before)
IsLawful word forms before (Tag w) = HasAsked 4 before
IsLawful word forms before _ = ⊤

-- some notes of one go may stand behind those before it
abbrev pub AreLawful : (ℕ → Option ℕ) → (ℕ → Option Form) → List Note → List Note → Type 0
AreLawful word forms before [] = ⊤
AreLawful word forms before (n ∷ notes) = IsLawful word forms before n × AreLawful word forms (before ++ n ∷ []) notes
