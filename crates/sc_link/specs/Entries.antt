-- Inside: plumbing, a representation, an invariant or a promise beside the claim (docs/TRUST.md).
-- What the entries of a list place and define.
use Rattle.std.specs.Prelude.{ℕ, ◌+◌, ◌%◌, ◌^◌, ◌==◌, ◌&&◌, Bool, true, false, if◌then◌else◌, nat_le, List, [], ◌∷◌, ◌++◌, length, map, flat_map, slice_get, option_to_list, Option, Some, None, option_and_then, ℤ}
use Rattle.sc_base.specs.declared.key.Key.{Key}
use Rattle.sc_base.specs.declared.memory.Form.{Form}
use Rattle.sc_base.specs.declared.memory.Form.TheVariants as form
use Rattle.sc_object.specs.declared.object.Section.{Section}
use Rattle.sc_object.specs.declared.object.Symbol.{Symbol}
use Rattle.sc_object.specs.declared.object.Reloc.{Reloc}
use Rattle.sc_object.specs.declared.object.FrameTable.{FrameTable}
use Rattle.sc_isa_image.specs.declared.text.Text.{Text}
use Rattle.sc_isa_image.specs.Texts.{text_with}
use Rattle.sc_link.specs.declared.placed.Placed.{Placed}
use Rattle.sc_link.specs.declared.placed.LiteralAt.{LiteralAt}
use Rattle.sc_link.specs.Relocation.{words}
use Rattle.sc_link.specs.Symbols.{is_text, is_literal, key_of, section_of, place_of, static_of, literal_of}

abbrev pub is_object : Form → Bool
is_object form.Object = true
is_object form.Source = false

abbrev pub each : {A B : Type 0} → (A → Option B) → List A → List B
each f xs = flat_map (λ x. option_to_list (f x)) xs

abbrev pub text_at : Placed → FrameTable → Option Section → Option ℕ → Option Key → Option Text
text_at e f None at key = None
text_at e f (Some section) None key = None
text_at e f (Some section) (Some at) None = None
text_at e f (Some section) (Some at) (Some key) =
    if is_text section.kind
    then Some (text_with (record { fun = key; «module» = e.home; start = at; frame = f }) (words section.bytes))
    else None

abbrev pub text_by : Placed → FrameTable → Symbol → Option Text
text_by e f s = text_at e f (section_of e.object s) (place_of e s) (key_of e.home s)

-- the text of the function that a frame is of, before its relocations
abbrev pub text_of : Placed → FrameTable → Option Text
text_of e f = option_and_then (text_by e f) (slice_get e.object.symbols f.symbol)

abbrev pub texts_of : Placed → List Text
texts_of e = each (text_of e) e.object.frames

-- the placed texts: those of entries in object form, former ones too
abbrev pub texts_if : Placed → List Text
texts_if e = if is_object e.form then texts_of e else []

abbrev pub texts_in : List Placed → List Text
texts_in es = flat_map texts_if es

-- where the functions of an entry begin
abbrev pub start_of : Text → Key × ℕ
start_of t = (t.at.fun, t.at.start)

-- the texts to which stubs lead: of present entries in object form
abbrev pub jumps_if : Placed → List (Key × ℕ)
jumps_if e = if e.retired then [] else map start_of (texts_if e)

abbrev pub jumps_in : List Placed → List (Key × ℕ)
jumps_in es = flat_map jumps_if es

-- the objects of static storage duration of present entries
abbrev pub statics_if : Placed → List (Key × ℕ)
statics_if e = if e.retired then [] else each (static_of e) e.object.symbols

abbrev pub statics_in : List Placed → List (Key × ℕ)
statics_in es = flat_map statics_if es

-- the literals of all entries
abbrev pub literals_of : Placed → List LiteralAt
literals_of e = each (literal_of e) e.object.symbols

abbrev pub literals_in : List Placed → List LiteralAt
literals_in es = flat_map literals_of es

-- What a relocation adds to: the value of a key, or a place, which is that of a literal.
pub data Base : Type 0 where
  OfKey : Option Key → Base
  Place : Option ℕ → Base

abbrev pub base_of : Placed → Option Symbol → Base
base_of e None = OfKey None
base_of e (Some s) = if is_literal s.name then Place (place_of e s) else OfKey (key_of e.home s)

-- A word that a relocation changes: its address, the relocation's type, whether it is the second word of a pair, the
-- address of the relocation itself, its addend, and to what that is added.
pub record Fix : Type 0 where
  pub at : ℕ
  pub kind : ℕ
  pub second : Bool
  pub place : ℕ
  pub addend : ℤ
  pub base : Base

abbrev pub fix_at : Placed → Reloc → ℕ → Bool → ℕ → Fix
fix_at e r p second at = record { at = at; kind = r.kind; second = second; place = p; addend = r.addend; base = base_of e (slice_get e.object.symbols r.symbol) }

-- both words of a pair are inside the section
abbrev pub has_second : Reloc → ℕ → Bool
has_second r len = r.kind == 19 && nat_le (r.at + 8) len

abbrev pub fixes_from : Placed → Reloc → ℕ × ℕ → List Fix
fixes_from e r spot = fix_at e r spot.0 false spot.0 ∷ (if has_second r spot.1 then fix_at e r spot.0 true ((spot.0 + 4) % 2 ^ 32) ∷ [] else [])

abbrev pub spot_at : Reloc → Option Section → Option ℕ → Option (ℕ × ℕ)
spot_at r None at = None
spot_at r (Some section) None = None
spot_at r (Some section) (Some at) =
    if is_text section.kind && nat_le (r.at + 4) (length section.bytes)
    then Some ((at + r.at) % 2 ^ 32, length section.bytes)
    else None

-- the address of a relocation in a text, and the text's length in bytes: a relocation changes words of its own section
abbrev pub spot_of : Placed → Reloc → Option (ℕ × ℕ)
spot_of e r = spot_at r (slice_get e.object.sections r.section) (slice_get e.places r.section)

abbrev pub fixes_at : Placed → Reloc → Option (ℕ × ℕ) → List Fix
fixes_at e r None = []
fixes_at e r (Some spot) = fixes_from e r spot

-- the words that a relocation changes
abbrev pub fixes_of : Placed → Reloc → List Fix
fixes_of e r = fixes_at e r (spot_of e r)

abbrev pub fixes_if : Placed → List Fix
fixes_if e = if is_object e.form then flat_map (fixes_of e) e.object.relocs else []

abbrev pub fixes_in : List Placed → List Fix
fixes_in es = flat_map fixes_if es
