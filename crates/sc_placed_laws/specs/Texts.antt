-- Yardstick: to be compared with what it restates (docs/TRUST.md).
-- Words that are instructions, and objects whose texts are made of such words.
use Rattle.std.specs.Prelude.{◌≡◌, ◌≤◌, ℕ, List, [], ◌∷◌, length, Option, Some, true}
use Rattle.sc_core.specs.declared.module.Core.{Core}
use Rattle.sc_core.specs.declared.module.Fun.{Fun}
use Rattle.sc_core_formed.specs.Modules.{formed}
use Rattle.sc_disas.specs.Reading.{instr_of_line}
use Rattle.sc_disas.specs.Writing.{text_of}
use Rattle.sc_gen.specs.Objects.{object_of}
use Rattle.sc_gen_code.specs.Code.{Code}
use Rattle.sc_isa.specs.declared.instruction.Instr.{Instr}
use Rattle.sc_isa.specs.Reading.{instr_of}
use Rattle.sc_isa.specs.Table.{word_of}
use Rattle.sc_link.specs.declared.placed.Placed.{Placed}
use Rattle.sc_link.specs.Entries.{is_object}
use Rattle.sc_object.specs.declared.object.Object.{Object}
use Rattle.sc_places.specs.Layout.{places_from, text_end}
use Rattle.sc_placed_laws.specs.Sound.{IsSoundCode}

-- the word of an instruction, whose text is read as that instruction
abbrev pub HasText : ℕ → Type 0
HasText w = (i : Instr) × ((instr_of w ≡ Some i) × ((word_of i ≡ w) × (instr_of_line (text_of i) ≡ Some i)))

-- the object of a module by code whose words are instructions
pub record IsMade (o : Object) : Type 0 where
  pub core : Core
  pub code : Fun → Code
  pub sound : (f : Fun) → IsSoundCode (code f)
  pub some : (f : Fun) → 1 ≤ length (code f)
  pub same : o ≡ object_of code core

abbrev pub AreMade : List Placed → Type 0
AreMade [] = Unit {0}
AreMade (e ∷ es) = IsMade e.object × AreMade es

-- of formed modules, whose symbols have numbers of 32 bits
abbrev pub AreNumbered : (es : List Placed) → AreMade es → Type 0
AreNumbered [] made = Unit {0}
AreNumbered (e ∷ es) made = ((formed made.0.core ≡ true) × (length e.object.symbols ≤ 4294967295)) × AreNumbered es made.1

-- the sections of an entry stand one behind the other, those of texts from an address on
pub record IsPlaced (text : ℕ) (e : Placed) : Type 0 where
  pub statics : ℕ
  pub keeps : List (Option ℕ)
  pub places_are : e.places ≡ places_from (is_object e.form) text statics e.object.sections keeps

-- the entries' texts stand so between two addresses, each entry behind those before it
abbrev pub StandTo : ℕ → ℕ → List Placed → Type 0
StandTo high low [] = low ≤ high
StandTo high low (e ∷ es) = (text : ℕ) × ((low ≤ text) × (IsPlaced text e × StandTo high (text_end (is_object e.form) text e.object.sections) es))

-- inside their area, from an address on
abbrev pub Stand : ℕ → List Placed → Type 0
Stand low es = StandTo 0x04100000 low es
