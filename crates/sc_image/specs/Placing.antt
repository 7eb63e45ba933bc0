-- Yardstick: to be compared with what it restates (docs/TRUST.md).
-- Where modules are placed, and which area has no room for them.
use Rattle.std.specs.Prelude.{ℕ, ◌≤◌, ◌<◌, false, List, [], ◌∷◌, length}
use Rattle.sc_base.specs.declared.key.Key.{Key}
use Rattle.sc_link.specs.declared.placed.Placed.{Placed}
use Rattle.sc_link.specs.declared.placed.Area.{Area}
use Rattle.sc_link.specs.declared.placed.Area.TheVariants as area
use Rattle.sc_link.specs.Entries.{is_object}
use Rattle.sc_places.specs.Layout.{places_from, static_end, text_end}
use Rattle.sc_image.specs.declared.module.Linking.{Linking}

-- the addresses behind a module that is placed from an address on; no section keeps a place
abbrev pub text_behind : ℕ → Linking → ℕ
text_behind text m = text_end (is_object m.form) text m.object.sections

abbrev pub static_behind : ℕ → Linking → ℕ
static_behind statics m = static_end statics m.object.sections []

-- the addresses behind all modules
abbrev pub texts_behind : ℕ → List Linking → ℕ
texts_behind text [] = text
texts_behind text (m ∷ ms) = texts_behind (text_behind text m) ms

abbrev pub statics_behind : ℕ → List Linking → ℕ
statics_behind statics [] = statics
statics_behind statics (m ∷ ms) = statics_behind (static_behind statics m) ms

-- the entry of a module that is placed from two addresses on
abbrev pub entry_at : ℕ → ℕ → Linking → Placed
entry_at text statics m = record {
  number = m.number;
  home = m.name;
  form = m.form;
  object = m.object;
  places = places_from (is_object m.form) text statics m.object.sections [];
  retired = false;
}

-- the entries of modules, in their order, each placed behind those before it
abbrev pub placed_from : ℕ → ℕ → List Linking → List Placed
placed_from text statics [] = []
placed_from text statics (m ∷ ms) = entry_at text statics m ∷ placed_from (text_behind text m) (static_behind statics m) ms

-- the first texts and the first objects stand at the beginning of their areas
abbrev pub placed_modules : List Linking → List Placed
placed_modules ms = placed_from 0x00100000 0x08000000 ms

-- all modules fit, and each function has a number
pub record Fits (ms : List Linking) (funs : List Key) : Type 0 where
  pub stubs : length funs ≤ 65536
  pub texts : texts_behind 0x00100000 ms ≤ 0x04100000
  pub statics : statics_behind 0x08000000 ms ≤ 0x08100000

-- The first area, in the order of their addresses, that has no room for what is placed in it: those before it have.
abbrev pub IsFull : List Linking → List Key → Area → Type 0
IsFull ms funs area.Stubs = 65536 < length funs
IsFull ms funs area.Text = (length funs ≤ 65536) × (0x04100000 < texts_behind 0x00100000 ms)
IsFull ms funs area.Static = (length funs ≤ 65536) × (texts_behind 0x00100000 ms ≤ 0x04100000) × (0x08100000 < statics_behind 0x08000000 ms)
