-- Yardstick: to be compared with what it restates (docs/TRUST.md).
-- Which relocations name a key.
use Rattle.std.specs.Prelude.{◌≡◌, ℕ, ◌+◌, Bool, false, if◌then◌else◌, List, [], ◌∷◌, ◌++◌, filter, flat_map, map, slice_get, Option, Some, None, option_and_then}
use Rattle.std.specs.Map.{lookup}
use Rattle.sc_base.specs.declared.key.Key.{Key}
use Rattle.sc_object.specs.declared.object.Object.{Object}
use Rattle.sc_object.specs.declared.object.Reloc.{Reloc}
use Rattle.sc_object.specs.declared.object.Symbol.{Symbol}
use Rattle.sc_isa_image.specs.Lookups.{key_eq}
use Rattle.sc_link.specs.declared.placed.Placed.{Placed}
use Rattle.sc_link.specs.Entries.{Fix, fixes_of, is_object}
use Rattle.sc_link.specs.Symbols.{is_literal, key_of}
use Rattle.sc_incr.specs.declared.uses.Use.{Use}
use Rattle.sc_incr.specs.declared.uses.Uses.{Uses}

-- the key that a symbol of a module names, none where it names a literal
abbrev pub key_by : List ℕ → Symbol → Option Key
key_by home s = if is_literal s.name then None else key_of home s

-- the key that a relocation names
abbrev pub key_named : List ℕ → Object → Reloc → Option Key
key_named home o r = option_and_then (key_by home) (slice_get o.symbols r.symbol)

abbrev pub is_key : Key → Option Key → Bool
is_key key None = false
is_key key (Some k) = key_eq k key

abbrev pub names : List ℕ → Object → Key → Reloc → Bool
names home o key r = is_key key (key_named home o r)

-- the positions of the relocations that name a key, from position n on
abbrev pub positions : List ℕ → Object → Key → ℕ → List Reloc → List ℕ
positions home o key n [] = []
positions home o key n (r ∷ rs) = if names home o key r then n ∷ positions home o key (n + 1) rs else positions home o key (n + 1) rs

abbrev pub uses_of : List ℕ → Object → Key → List ℕ
uses_of home o key = positions home o key 0 o.relocs

abbrev pub use_at : ℕ → ℕ → Use
use_at placed reloc = record { placed = placed; reloc = reloc }

-- the relocations that name a key, in the order of the list, from position n on, and then of the objects
abbrev pub users_from : ℕ → List Placed → Key → List Use
users_from n [] key = []
users_from n (e ∷ es) key = map (use_at n) (uses_of e.home e.object key) ++ users_from (n + 1) es key

abbrev pub users_in : List Placed → Key → List Use
users_in es key = users_from 0 es key

-- what an index has for a key: nothing where it has no list
abbrev pub or_nothing : Option (List ℕ) → List ℕ
or_nothing None = []
or_nothing (Some uses) = uses

abbrev pub found : Uses → Key → List ℕ
found u key = or_nothing (lookup (key_eq key) u.lists.entries)

-- an index has just these relocations of a module's object
abbrev pub IsIndexOf : List ℕ → Object → List Reloc → Uses → Type 0
IsIndexOf home o relocs u = (key : Key) → found u key ≡ positions home o key 0 relocs

-- an index has just the relocations of a module's object
abbrev pub IsIndex : List ℕ → Object → Uses → Type 0
IsIndex home o u = IsIndexOf home o o.relocs u

-- the words that the relocations of an entry in object form change which name a key
abbrev pub fixes_naming : Key → Placed → List Fix
fixes_naming key e = if is_object e.form then flat_map (fixes_of e) (filter (names e.home e.object key) e.object.relocs) else []
