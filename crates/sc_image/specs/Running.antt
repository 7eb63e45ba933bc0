-- Yardstick: to be compared with what it restates (docs/TRUST.md).
-- The entries of a program that changes while it runs: what was placed stays where it is, and what is new is placed behind it.
use Rattle.std.specs.Prelude.{◌≡◌, ℕ, ◌<◌, ◌≤◌, ◌&&◌, Bool, true, false, not, if◌then◌else◌, List, [], ◌∷◌, ◌++◌, map, find, length, replicate, slice_set, Option, Some, None}
use Rattle.std.specs.List.{list_any}
use Rattle.std.specs.Str.{bytes_eq}
use Rattle.sc_base.specs.declared.key.Key.{Key}
use Rattle.sc_object.specs.declared.object.Object.{Object}
use Rattle.sc_object.specs.declared.object.Section.{Section}
use Rattle.sc_object.specs.declared.object.Symbol.{Symbol}
use Rattle.sc_isa_image.specs.Literals.{literal_of}
use Rattle.sc_isa_image.specs.Lookups.{key_eq}
use Rattle.sc_link.specs.declared.placed.Placed.{Placed}
use Rattle.sc_link.specs.declared.placed.LiteralAt.{LiteralAt}
use Rattle.sc_link.specs.declared.placed.LinkFault.{LinkFault}
use Rattle.sc_link.specs.declared.placed.LinkFault.TheVariants as fault
use Rattle.sc_link.specs.declared.placed.Area.{Area}
use Rattle.sc_link.specs.declared.placed.Area.TheVariants as area
use Rattle.sc_link.specs.Entries.{is_object, literals_in, statics_in}
use Rattle.sc_link.specs.Linked.{literal_place, place_in}
use Rattle.sc_link.specs.Symbols.{is_literal, key_of, section_of}
use Rattle.sc_places.specs.Layout.{behind_statics, behind_texts, places_from, static_end, text_end}
use Rattle.sc_image.specs.declared.module.Linking.{Linking}

-- the present entry of a module
abbrev pub is_present : List ℕ → Placed → Bool
is_present name e = not e.retired && bytes_eq e.home name

abbrev pub present : List ℕ → List Placed → Option Placed
present name es = find (is_present name) es

-- it becomes a former one, in its place
abbrev pub retired_if : Bool → Placed → Placed
retired_if b e = if b then record e { retired = true } else e

abbrev pub without : List ℕ → List Placed → List Placed
without name es = map (λ e. retired_if (is_present name e) e) es

-- the place that a literal of a module has, whatever text of the module brought it
abbrev pub literal_kept : List LiteralAt → List ℕ → Option Section → Option ℕ
literal_kept literals home None = None
literal_kept literals home (Some section) = literal_place literals (literal_of home section.bytes)

-- the place that an object has which is one of those that stay
abbrev pub static_kept : List (Key × ℕ) → List Key → Option Key → Option ℕ
static_kept statics kept None = None
static_kept statics kept (Some key) = if list_any (λ k. key_eq k key) kept then place_in statics key else None

abbrev pub kept_place : List LiteralAt → List (Key × ℕ) → List Key → List ℕ → Object → Symbol → Option ℕ
kept_place literals statics kept home o s = if is_literal s.name then literal_kept literals home (section_of o s) else static_kept statics kept (key_of home s)

-- the places that sections keep, one symbol after another
abbrev pub put_kept : Option ℕ → Option ℕ → List (Option ℕ) → List (Option ℕ)
put_kept None place keeps = keeps
put_kept (Some section) None keeps = keeps
put_kept (Some section) (Some at) keeps = slice_set keeps section (Some at)

abbrev pub all_kept : (Symbol → Option ℕ) → List Symbol → List (Option ℕ) → List (Option ℕ)
all_kept place [] keeps = keeps
all_kept place (s ∷ ss) keeps = all_kept place ss (put_kept s.section (place s) keeps)

-- the places that the sections of a module keep in a list, where these objects stay
abbrev pub kept_places : List Placed → Linking → List Key → List (Option ℕ)
kept_places es m kept = all_kept (kept_place (literals_in es) (statics_in es) kept m.name m.object) m.object.symbols (replicate (length m.object.sections) None)

-- the entry of a module behind all that a list has placed
abbrev pub entry_behind : List Placed → Linking → List (Option ℕ) → Placed
entry_behind es m keeps = record {
  number = m.number;
  home = m.name;
  form = m.form;
  object = m.object;
  places = places_from (is_object m.form) (behind_texts es) (behind_statics es) m.object.sections keeps;
  retired = false;
}

-- a module more, or in the place of its present entry, which becomes a former one
abbrev pub with_entry : List Placed → Linking → List (Option ℕ) → List Placed
with_entry es m keeps = without m.name es ++ entry_behind es m keeps ∷ []

abbrev pub with_module : List Placed → Linking → List Key → List Placed
with_module es m kept = with_entry es m (kept_places es m kept)

-- a module with another text of its, which follows its present entry: its objects and literals stay
abbrev pub formed_by : Option Placed → Linking → List Placed → List Placed
formed_by None m es = es
formed_by (Some e) m es = with_entry es m (map Some e.places)

abbrev pub in_form : Linking → List Placed → List Placed
in_form m es = formed_by (present m.name es) m es

-- The first area, in the order of their addresses, that has no room for a module behind all that a list has placed; want of memory says nothing.
abbrev pub IsShortOf : List Placed → List Key → Linking → List (Option ℕ) → LinkFault → Type 0
IsShortOf es funs m keeps (fault.Space area.Stubs) = 65536 < length funs
IsShortOf es funs m keeps (fault.Space area.Text) = (length funs ≤ 65536) × (0x04100000 < text_end (is_object m.form) (behind_texts es) m.object.sections)
IsShortOf es funs m keeps (fault.Space area.Static) =
    (length funs ≤ 65536) × (text_end (is_object m.form) (behind_texts es) m.object.sections ≤ 0x04100000) × (0x08100000 < static_end (behind_statics es) m.object.sections keeps)
IsShortOf es funs m keeps fault.NoMemory = Unit {0}

abbrev pub IsShortIn : Option Placed → List Placed → List Key → Linking → LinkFault → Type 0
IsShortIn None es funs m f = f ≡ fault.NoMemory
IsShortIn (Some e) es funs m f = IsShortOf es funs m (map Some e.places) f

-- all that a list has placed is within its areas, and each function has a number
pub record AreWithin (es : List Placed) (funs : List Key) : Type 0 where
  pub stubs : length funs ≤ 65536
  pub texts : behind_texts es ≤ 0x04100000
  pub statics : behind_statics es ≤ 0x08100000

-- the first area, in the order of their addresses, that has no room for what a list has placed in it: those before it have
abbrev pub IsOver : List Placed → List Key → Area → Type 0
IsOver es funs area.Stubs = 65536 < length funs
IsOver es funs area.Text = (length funs ≤ 65536) × (0x04100000 < behind_texts es)
IsOver es funs area.Static = (length funs ≤ 65536) × (behind_texts es ≤ 0x04100000) × (0x08100000 < behind_statics es)
