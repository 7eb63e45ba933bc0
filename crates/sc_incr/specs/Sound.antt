-- Yardstick: to be compared with what it restates (docs/TRUST.md).
-- What is asked of an object: each text is one function's, and no word has two relocations.
use Rattle.std.specs.Prelude.{◌≡◌, ℕ, ◌+◌, Bool, true, false, slice_get, Option, Some, option_and_then}
use Rattle.sc_object.specs.declared.object.FrameTable.{FrameTable}
use Rattle.sc_object.specs.declared.object.Object.{Object}
use Rattle.sc_object.specs.declared.object.Reloc.{Reloc}
use Rattle.sc_object.specs.declared.object.Section.{Section}
use Rattle.sc_object.specs.declared.object.Symbol.{Symbol}
use Rattle.sc_link.specs.Symbols.{is_literal, is_name, is_text, section_of}
use Rattle.sc_incr.specs.Stands.{Has}

-- the symbol of the function that a frame is of, and its section
abbrev pub frame_symbol : Object → FrameTable → Option Symbol
frame_symbol o f = slice_get o.symbols f.symbol

abbrev pub symbol_section : Symbol → Option ℕ
symbol_section s = s.section

abbrev pub frame_section : Object → FrameTable → Option ℕ
frame_section o f = option_and_then symbol_section (frame_symbol o f)

-- a section holds the text of a function that has a frame and whose name is one of a key
pub record IsText (o : Object) (section : ℕ) : Type 0 where
  pub frame : FrameTable
  pub listed : Has frame o.frames
  pub symbol : Symbol
  pub is : frame_symbol o frame ≡ Some symbol
  pub home : symbol.section ≡ Some section
  pub named : is_name symbol.name ≡ true

-- the first or the second word of a relocation, by its offset; a pair alone has a second one
pub data Word (r : Reloc) : ℕ → Bool → Type 0 where
  front : Word r r.at false
  back : r.kind ≡ 19 → Word r (r.at + 4) true

-- What is asked of an object: no two frames are of one text; each relocation of a text is in a text that has a frame; no word has
-- two relocations; and literals are no texts.
pub record IsSound (o : Object) : Type 0 where
  pub frames : (m n : ℕ) (f g : FrameTable) (k : ℕ) → slice_get o.frames m ≡ Some f → slice_get o.frames n ≡ Some g → frame_section o f ≡ Some k → frame_section o g ≡ Some k → m ≡ n
  pub texts : (r : Reloc) (s : Section) → Has r o.relocs → slice_get o.sections r.section ≡ Some s → is_text s.kind ≡ true → IsText o r.section
  pub words : (r s : Reloc) (n : ℕ) (a b : Bool) → Has r o.relocs → Has s o.relocs → r.section ≡ s.section → Word r n a → Word s n b → (r ≡ s) × (a ≡ b)
  pub literals : (s : Symbol) (c : Section) → Has s o.symbols → is_literal s.name ≡ true → section_of o s ≡ Some c → is_text c.kind ≡ false
