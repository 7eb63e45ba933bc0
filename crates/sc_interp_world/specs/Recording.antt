-- Inside: plumbing, a representation, an invariant or a promise beside the claim (docs/TRUST.md).
-- What the record of a run gains.
use Rattle.std.specs.Prelude.{◌≡◌, ⊤, ℕ, nat_lt, true, false, zero, suc, ◌==◌, ◌&&◌, ◌++◌, ◌∷◌, [], Bool, List, if◌then◌else◌, Option, None, Some, slice_index_or}
use Rattle.std.specs.List.{filter}
use Rattle.sc_base.specs.declared.key.Key.{Key}
use Rattle.sc_base.specs.declared.memory.Word.{Word}
use Rattle.sc_base.specs.declared.note.Note.{Note}
use Rattle.sc_base.specs.declared.note.Note.TheVariants as notes
use Rattle.sc_program.specs.declared.storage.StaticId.{StaticId}
use Rattle.sc_program.specs.declared.storage.StaticId.TheVariants as id
use Rattle.sc_meaning.specs.Values.{Cell, Unwritten, Byte, Piece}
use Rattle.sc_meaning.specs.World.{Frame, named_in}
use Rattle.sc_interp_world.specs.declared.recorder.Entry.{Entry}
use Rattle.sc_interp_world.specs.declared.recorder.Entry.TheVariants as entries
use Rattle.sc_interp_world.specs.declared.recorder.Recorder.{Recorder}

-- one more entry, and nothing else
abbrev pub with_entry : Entry → Recorder → Recorder
with_entry e r = record r { entries = r.entries ++ e ∷ [] }

-- one more note
abbrev pub noted : Note → Recorder → Recorder
noted n r = with_entry (entries.One n) r

-- a note of a call or a line; of what passes between compiled code and a call; of a register; or another one
pub data Family : Type 0 where
  OfCalls : Family
  Passes : Family
  Sets : Family
  Plain : Family

abbrev pub family : Note → Family
family (notes.Enter fun form) = OfCalls
family (notes.Leave fun) = OfCalls
family (notes.At fun line) = OfCalls
family (notes.Call fun) = Passes
family (notes.Back fun) = Passes
family (notes.SetReg n w) = Sets
family n = Plain

abbrev pub family_of : Entry → Family
family_of (entries.One n) = family n
family_of (entries.Fill at count byte) = Plain

abbrev pub is_of_calls : Family → Bool
is_of_calls OfCalls = true
is_of_calls Passes = false
is_of_calls Sets = false
is_of_calls Plain = false

abbrev pub tells_calls : Entry → Bool
tells_calls e = is_of_calls (family_of e)

-- Registers are set in a group right behind a note of what passes: whether one may be set here, and behind a note.
abbrev pub may_stand : Bool → Family → Bool
may_stand here OfCalls = true
may_stand here Passes = true
may_stand here Sets = here
may_stand here Plain = true

abbrev pub opens : Bool → Family → Bool
opens here OfCalls = false
opens here Passes = true
opens here Sets = here
opens here Plain = false

-- each of some entries may stand where it does
abbrev pub AreGrouped : Bool → List Entry → Type 0
AreGrouped here [] = ⊤
AreGrouped here (e ∷ es) = (may_stand here (family_of e) ≡ true) × AreGrouped (opens here (family_of e)) es

-- some entries more, which tell of no call and no line and may stand anywhere, and nothing else
pub record Adds (old new : Recorder) : Type 0 where
  pub more : List Entry
  pub added : new ≡ record old { entries = old.entries ++ more }
  pub other : filter tells_calls more ≡ []
  pub grouped : (here : Bool) → AreGrouped here more

-- a number, and 0 where there is none
abbrev pub or_zero : Option ℕ → ℕ
or_zero None = 0
or_zero (Some n) = n

-- the number of a function
abbrev pub number_in : List (StaticId × ℕ) → Key → ℕ
number_in functions key = or_zero (named_in functions (id.Named key))

-- a call becomes active
abbrev pub entered : ℕ → Frame → Recorder → Recorder
entered fun f r = noted (notes.Enter fun f.form) (record r { active = fun ∷ r.active })

-- the innermost of the active calls is left
abbrev pub left_in : List ℕ → Recorder → Recorder
left_in [] r = r
left_in (fun ∷ below) r = noted (notes.Leave fun) (record r { active = below; last = fun })

-- a line of the innermost of the active calls is reached
abbrev pub reached_in : List ℕ → ℕ → Recorder → Recorder
reached_in [] line r = r
reached_in (fun ∷ below) line r = noted (notes.At fun line) r

-- a library function is called
abbrev pub called_in : ℕ → Recorder → Recorder
called_in fun r = noted (notes.Lib fun) (record r { last = fun })

abbrev pub is_same : Word → Word → Bool
is_same w v = (w.bits == v.bits) && (w.tag == v.tag)

abbrev pub plain : ℕ → Word
plain bits = record { bits = bits; tag = 0 }

-- register n is set, where it held another word
abbrev pub set_register : ℕ → Word → Word → Recorder → Recorder
set_register n w was r = if is_same w was then r else noted (notes.SetReg n w) r

-- the first n registers are set to these words, in ascending order, where they are not the machine's
unfoldable pub set_first : List Word → ℕ → Recorder → Recorder
set_first words zero r = r
set_first words (suc n) r =
    let before : Recorder = set_first words n r in
    set_register n (slice_index_or words n (plain 0)) (slice_index_or before.machine.words n (plain 0)) before

-- all registers are set, and the program counter
abbrev pub set_all : ℕ → List Word → Recorder → Recorder
set_all pc words r =
    let before : Recorder = set_first words 32 r in
    set_register 32 (plain pc) (plain before.machine.pc) before

-- the word that a store of n bytes writes
abbrev pub stored_word : ℕ → Word → Word
stored_word n w = record { bits = w.bits; tag = if n == 4 then w.tag else 0 }

-- a byte is this number
abbrev pub is_byte : ℕ → Cell → Bool
is_byte byte Unwritten = false
is_byte byte (Byte b) = b == byte
is_byte byte (Piece v k) = false

-- of so many equal bytes in front how many are told at once
abbrev pub equal_count : ℕ → ℕ
equal_count n = if nat_lt n 8 then 1 else n

-- and what is told of them: of a few the first, of many all
abbrev pub equal_told : ℕ → ℕ → ℕ → Recorder → Recorder
equal_told n at byte r = if nat_lt n 8 then noted (notes.Put at 1 (plain byte)) r else with_entry (entries.Fill at n byte) r
