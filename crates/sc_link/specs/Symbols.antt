-- Yardstick: to be compared with what it restates (docs/TRUST.md).
-- What a symbol of a placed object stands for.
use Rattle.std.specs.Prelude.{ℕ, ◌+◌, ◌*◌, ◌%◌, ◌^◌, ◌==◌, ◌&&◌, ◌||◌, Bool, true, false, if◌then◌else◌, nat_lt, nat_le, List, [], ◌∷◌, length, slice_get, Option, Some, None, option_and_then}
use Rattle.sc_base.specs.declared.key.Key.{Key}
use Rattle.sc_object.specs.declared.object.SectionKind.{SectionKind}
use Rattle.sc_object.specs.declared.object.SectionKind.TheVariants.{Text, Data, Rodata, Bss}
use Rattle.sc_object.specs.declared.object.Section.{Section}
use Rattle.sc_object.specs.declared.object.Symbol.{Symbol}
use Rattle.sc_object.specs.declared.object.Object.{Object}
use Rattle.sc_link.specs.declared.placed.Placed.{Placed}
use Rattle.sc_link.specs.declared.placed.LiteralAt.{LiteralAt}

abbrev pub is_text : SectionKind → Bool
is_text Text = true
is_text Data = false
is_text Rodata = false
is_text Bss = false

-- names of keys have 1 to 255 bytes
abbrev pub is_name : List ℕ → Bool
is_name name = nat_lt 0 (length name) && nat_le (length name) 255

-- an external name has no module
abbrev pub home_if : Bool → List ℕ → Option (List ℕ)
home_if true home = None
home_if false home = Some home

-- the key that a symbol of a module names
abbrev pub key_of : List ℕ → Symbol → Option Key
key_of home s = if is_name s.name then Some (record { «module» = home_if s.global home; name = s.name }) else None

-- the names of literals, and no others, begin with `$`
abbrev pub is_literal : List ℕ → Bool
is_literal [] = false
is_literal (c ∷ cs) = c == 36

abbrev pub section_of : Object → Symbol → Option Section
section_of o s = option_and_then (slice_get o.sections) s.section

abbrev pub place_of : Placed → Symbol → Option ℕ
place_of e s = option_and_then (slice_get e.places) s.section

abbrev pub static_at : Option Section → Option ℕ → Option Key → Option (Key × ℕ)
static_at None at key = None
static_at (Some section) None key = None
static_at (Some section) (Some at) None = None
static_at (Some section) (Some at) (Some key) = if is_text section.kind then None else Some (key, at)

-- the object of static storage duration that a symbol defines, with its place
abbrev pub static_of : Placed → Symbol → Option (Key × ℕ)
static_of e s = if is_literal s.name then None else static_at (section_of e.object s) (place_of e s) (key_of e.home s)

abbrev pub literal_at : List ℕ → Option Section → Option ℕ → Option LiteralAt
literal_at home None at = None
literal_at home (Some section) None = None
literal_at home (Some section) (Some at) = Some (record { «module» = home; bytes = section.bytes; at = at })

-- the literal that a symbol defines, with its place
abbrev pub literal_of : Placed → Symbol → Option LiteralAt
literal_of e s = if is_literal s.name then literal_at e.home (section_of e.object s) (place_of e s) else None
