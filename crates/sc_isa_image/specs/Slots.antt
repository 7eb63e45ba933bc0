-- Inside: plumbing, a representation, an invariant or a promise beside the claim (docs/TRUST.md).
-- Words that are found by their place in the text area.
use Rattle.std.specs.Prelude.{◌≡◌, ◌⊎◌, ℕ, ◌+◌, ◌*◌, ◌<◌, ◌≤◌, List, length, slice_get, Option, Some, IfSome}
use Rattle.sc_isa.specs.declared.instruction.Instr.{Instr}
use Rattle.sc_isa.specs.Reading.{instr_of}
use Rattle.sc_isa.specs.Table.{IsSound}
use Rattle.sc_isa_image.specs.declared.text.Text.{Text}
use Rattle.sc_isa_image.specs.Texts.{text_word}

-- what was read is the instruction of the word
pub record IsReading (word : ℕ) (read : Option Instr) : Type 0 where
  pub value : read ≡ instr_of word
  pub sound : IfSome read (λ i. IsSound i)

-- the address of a slot: each is for four bytes of the text area, from its beginning on
abbrev pub slot_address : ℕ → ℕ
slot_address i = 0x00100000 + 4 * i

-- each slot has the word at its address
pub record AreSlots (slots : List (Option ℕ)) (texts : List Text) : Type 0 where
  pub few : length slots ≤ 0x01000000
  pub right : (i : ℕ) (r : Option ℕ) → slice_get slots i ≡ Some r → r ≡ text_word texts (slot_address i)

-- slots from one place up to another were looked up again, and all others are as they were
pub record IsRenewedTo (old new : List (Option ℕ)) (texts : List Text) (from end : ℕ) : Type 0 where
  pub count : length new ≡ length old
  pub right : (i : ℕ) (r : Option ℕ) → slice_get new i ≡ Some r → from ≤ i → i < end → r ≡ text_word texts (slot_address i)
  pub others : (i : ℕ) → (i < from) ⊎ (end ≤ i) → slice_get new i ≡ slice_get old i

-- the slots of this many words and of one more
pub record IsRenewed (old new : List (Option ℕ)) (texts : List Text) (from words : ℕ) : Type 0 where
  pub count : length new ≡ length old
  pub right : (i : ℕ) (r : Option ℕ) → slice_get new i ≡ Some r → from ≤ i → i ≤ from + words → r ≡ text_word texts (slot_address i)
  pub others : (i : ℕ) → (i < from) ⊎ (from + words < i) → slice_get new i ≡ slice_get old i
