-- Inside: plumbing, a representation, an invariant or a promise beside the claim (docs/TRUST.md).
-- What a new entry puts into an image, and what has to hold for it.
use Rattle.std.specs.Prelude.{◌≡◌, ℕ, Bool, ◌+◌, ◌≤◌, if◌then◌else◌, List, [], ◌++◌, flat_map, length, map, slice_get, option_to_list, Option, Some, None}
use Rattle.std.specs.List.{list_any}
use Rattle.sc_base.specs.declared.key.Key.{Key}
use Rattle.sc_object.specs.declared.object.Reloc.{Reloc}
use Rattle.sc_isa_image.specs.declared.image.Image.{Image}
use Rattle.sc_isa_image.specs.declared.text.Text.{Text}
use Rattle.sc_isa_image.specs.Texts.{end_of}
use Rattle.sc_isa_image.specs.Lookups.{function_room, key_eq, literal_room, text_room, value_room}
use Rattle.sc_link.specs.declared.placed.Placed.{Placed}
use Rattle.sc_link.specs.Entries.{Fix, base_of, fixes_if, fixes_in, fixes_of, is_object, jumps_if, jumps_in, literals_in, literals_of, statics_if, statics_in, texts_if, texts_in}
use Rattle.sc_link.specs.Linked.{AreApart, AreDistinct, AreOnePlaced, base_value, or_zero, place_in}
use Rattle.sc_link.specs.Symbols.{key_of}
use Rattle.sc_incr.specs.declared.parts.Parts.{Parts}
use Rattle.sc_incr.specs.Stands.{AreAbsent, AreHeld, AreSingle, Has, Stands}
use Rattle.sc_incr.specs.Uses.{fixes_naming}

abbrev pub key_of_pair : Key × ℕ → Key
key_of_pair x = x.0

-- a key is one of objects
abbrev pub is_object_of : List (Key × ℕ) → Key → Bool
is_object_of objects key = list_any (λ o. key_eq o.0 key) objects

-- the keys that get a value with an entry: its new functions, and its objects
abbrev pub new_keys : Placed → List Key → List Key
new_keys e functions = functions ++ map key_of_pair (statics_if e)

-- the parts are those of an entry
pub record ArePartsOf (e : Placed) (p : Parts) : Type 0 where
  pub statics : p.statics.items ≡ statics_if e
  pub texts : p.texts.items ≡ texts_if e
  pub jumps : p.jumps.items ≡ jumps_if e
  pub literals : p.literals.items ≡ literals_of e
  pub symbols : p.symbols.items ≡ map (key_of e.home) e.object.symbols
  pub changed : (k : Key) → Has k (new_keys e p.functions.items) → Has k p.changed.items

-- the image has room for the parts, and for some literals more
pub record HasRoom (moved : ℕ) (i : Image) (p : Parts) : Type 0 where
  pub texts : length p.texts.items ≤ text_room i
  pub statics : length p.statics.items ≤ value_room i
  pub literals : length p.literals.items + moved ≤ literal_room i
  pub functions : length p.functions.items ≤ function_room i

-- an entry and new functions may follow those of the list
pub record Follows (es : List Placed) (funs : List Key) (e : Placed) (more : List Key) : Type 0 where
  pub distinct : AreDistinct (funs ++ more)
  pub few : length funs + length more ≤ 65536
  pub unjumped : AreAbsent more (jumps_in es)
  pub unplaced : AreAbsent more (statics_in es)
  pub apart : AreApart (texts_in es ++ texts_if e)
  pub low : (n : ℕ) (t : Text) → slice_get (texts_if e) n ≡ Some t → 0x00100000 ≤ t.at.start
  pub high : (n : ℕ) (t : Text) → slice_get (texts_if e) n ≡ Some t → end_of t ≤ 0x04100000
  pub held : AreHeld (fixes_in es) (texts_in es)
  pub defined : (k : Key) (at : ℕ) → place_in (jumps_if e) k ≡ Some at → place_in (jumps_in es) k ≡ None
  pub one : AreOnePlaced (literals_in es ++ literals_of e)
  pub single : AreSingle (fixes_in es ++ fixes_if e)

-- an image with the parts of an entry behind those of a list, before the relocations of the entry
abbrev pub HasEntry : (Key → Option ℕ) → List Placed → List Key → Placed → List Key → Image → Type 0
HasEntry value es funs e more i = Stands (funs ++ more) (statics_in es ++ statics_if e) (jumps_in es ++ jumps_if e) (texts_in es ++ texts_if e) (fixes_in es) value (literals_in es ++ literals_of e) i

-- to what a relocation adds, by the keys of symbols
abbrev pub key_value : (Key → Option ℕ) → Option (Option Key) → ℕ
key_value value None = 0
key_value value (Some None) = 0
key_value value (Some (Some key)) = or_zero (value key)

-- to what a relocation of an entry adds
abbrev pub adds_to : (Key → Option ℕ) → Placed → Reloc → ℕ
adds_to value e r = base_value value (base_of e (slice_get e.object.symbols r.symbol))

-- the words that the relocation at a position changes
abbrev pub fixes_at_position : Placed → ℕ → List Fix
fixes_at_position e at = flat_map (fixes_of e) (option_to_list (slice_get e.object.relocs at))

-- the words that the relocations at positions of an entry in object form change
abbrev pub fixes_placed : Placed → List ℕ → List Fix
fixes_placed e positions = if is_object e.form then flat_map (fixes_at_position e) positions else []

-- the relocations at positions add to one base
abbrev pub AllAddTo : (Key → Option ℕ) → Placed → ℕ → List ℕ → Type 0
AllAddTo value e base positions = (at : ℕ) (r : Reloc) → Has at positions → slice_get e.object.relocs at ≡ Some r → adds_to value e r ≡ base

-- the words that the relocations of a list change which name one of these keys
abbrev pub fixes_for : List Placed → Key → List Fix
fixes_for es key = flat_map (fixes_naming key) es

abbrev pub fixes_for_all : List Placed → List Key → List Fix
fixes_for_all es keys = flat_map (fixes_for es) keys
