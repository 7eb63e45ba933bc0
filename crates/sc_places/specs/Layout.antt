-- Yardstick: to be compared with what it restates (docs/TRUST.md).
-- Where the sections of a new entry are placed.
use Rattle.std.specs.Prelude.{ℕ, ◌+◌, ◌*◌, ◌/◌, ◌^◌, ◌&&◌, Bool, if◌then◌else◌, max, min, List, [], ◌∷◌, length, Option, Some, None}
use Rattle.sc_object.specs.declared.object.Section.{Section}
use Rattle.sc_link.specs.declared.placed.Placed.{Placed}
use Rattle.sc_link.specs.Entries.{is_object}
use Rattle.sc_link.specs.Symbols.{is_text}

-- the address behind a text of this many bytes, which takes whole words
abbrev pub behind_text : ℕ → ℕ → ℕ
behind_text text len = text + (len + 3) / 4 * 4

-- The address behind an object of this size. It takes at least one byte more, so that the end of one is no place of another.
abbrev pub behind_static : ℕ → ℕ → ℕ
behind_static statics size = statics + size / 4 * 4 + 4

-- the first of the places that sections keep
abbrev pub first_kept : List (Option ℕ) → Option ℕ
first_kept [] = None
first_kept (k ∷ ks) = k

abbrev pub rest_kept : List (Option ℕ) → List (Option ℕ)
rest_kept [] = []
rest_kept (k ∷ ks) = ks

-- the address behind a section that is placed in the text area: none is of a module that is interpreted
abbrev pub text_after : Bool → ℕ → Section → ℕ
text_after object text s = if is_text s.kind && object then behind_text text (length s.bytes) else text

abbrev pub behind_kept : ℕ → Section → Option ℕ → ℕ
behind_kept statics s None = behind_static statics s.size
behind_kept statics s (Some at) = statics

-- the address behind a section that is placed in the area of static objects: one that keeps its place takes none
abbrev pub static_after : ℕ → Section → Option ℕ → ℕ
static_after statics s kept = if is_text s.kind then statics else behind_kept statics s kept

abbrev pub kept_or : ℕ → Option ℕ → ℕ
kept_or statics None = statics
kept_or statics (Some at) = at

-- the place of a section; the text of a module that is interpreted has none, which is said by 0
abbrev pub place_one : Bool → ℕ → ℕ → Section → Option ℕ → ℕ
place_one object text statics s kept = if is_text s.kind then (if object then text else 0) else kept_or statics kept

-- the places of sections, each behind the one before
abbrev pub places_from : Bool → ℕ → ℕ → List Section → List (Option ℕ) → List ℕ
places_from object text statics [] kept = []
places_from object text statics (s ∷ ss) kept =
    place_one object text statics s (first_kept kept)
    ∷ places_from object (text_after object text s) (static_after statics s (first_kept kept)) ss (rest_kept kept)

-- the addresses behind the last section
abbrev pub text_end : Bool → ℕ → List Section → ℕ
text_end object text [] = text
text_end object text (s ∷ ss) = text_end object (text_after object text s) ss

abbrev pub static_end : ℕ → List Section → List (Option ℕ) → ℕ
static_end statics [] kept = statics
static_end statics (s ∷ ss) kept = static_end (static_after statics s (first_kept kept)) ss (rest_kept kept)

-- The addresses behind what an entry has placed. Beyond 2^32 all addresses are one.
abbrev pub text_reach : Section → ℕ → ℕ
text_reach s at = if is_text s.kind then min (behind_text at (length s.bytes)) (2 ^ 32) else 0

abbrev pub static_reach : Section → ℕ → ℕ
static_reach s at = if is_text s.kind then 0 else min (behind_static at s.size) (2 ^ 32)

abbrev pub first_place : List ℕ → Option ℕ
first_place [] = None
first_place (p ∷ ps) = Some p

abbrev pub rest_places : List ℕ → List ℕ
rest_places [] = []
rest_places (p ∷ ps) = ps

abbrev pub reach_by : (Section → ℕ → ℕ) → Section → Option ℕ → ℕ
reach_by reach s None = 0
reach_by reach s (Some at) = reach s at

abbrev pub top_of : (Section → ℕ → ℕ) → List Section → List ℕ → ℕ
top_of reach [] places = 0
top_of reach (s ∷ ss) places = max (reach_by reach s (first_place places)) (top_of reach ss (rest_places places))

abbrev pub text_top : Placed → ℕ
text_top e = if is_object e.form then top_of text_reach e.object.sections e.places else 0

abbrev pub static_top : Placed → ℕ
static_top e = top_of static_reach e.object.sections e.places

-- the addresses behind all that the entries of a list have placed
abbrev pub behind_texts : List Placed → ℕ
behind_texts [] = 0x00100000
behind_texts (e ∷ es) = max (text_top e) (behind_texts es)

abbrev pub behind_statics : List Placed → ℕ
behind_statics [] = 0x08000000
behind_statics (e ∷ es) = max (static_top e) (behind_statics es)
