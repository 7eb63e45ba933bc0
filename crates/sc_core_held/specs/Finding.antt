-- Inside: plumbing, a representation, an invariant or a promise beside the claim (docs/TRUST.md).
-- How a function of a module is found by its name, and an object by its key.
use Rattle.std.specs.Prelude.{◌≡◌, ℕ, ◌+◌, List, [], ◌∷◌, Option, Some, None, if◌then◌else◌, slice_get}
use Rattle.std.specs.Option.{option_or}
use Rattle.std.specs.Str.{bytes_eq}
use Rattle.sc_core.specs.Modules.{function_of}
use Rattle.sc_core.specs.declared.module.Fun.{Fun}
use Rattle.sc_core.specs.declared.module.StaticObj.{StaticObj}
use Rattle.sc_base.specs.declared.key.Key.{Key}
use Rattle.sc_core_held.specs.Numbers.{key_eq}

-- each name has the first of these functions that has it
pub record Finds (find : List ℕ → Option Fun) (funs : List Fun) : Type 0 where
  pub finds : (name : List ℕ) → find name ≡ function_of name funs

-- a function more, where none had its name
pub record Adds (old : List ℕ → Option Fun) (f : Fun) (new : List ℕ → Option Fun) : Type 0 where
  pub adds : (name : List ℕ) → new name ≡ option_or (old name) (if bytes_eq f.name name then Some f else None)

-- each name has the first of the functions that has it: one that is found already, or else one of the rest
pub record FindsAfter (find : List ℕ → Option Fun) (rest funs : List Fun) : Type 0 where
  pub finds : (name : List ℕ) → option_or (find name) (function_of name rest) ≡ function_of name funs

-- the place of the first object that has a key, where the first one has this place
abbrev pub place_from : ℕ → List StaticObj → Key → Option ℕ
place_from place [] key = None
place_from place (o ∷ os) key = if key_eq o.key key then Some place else place_from (place + 1) os key

-- the object that stands at a place
abbrev pub object_at : List StaticObj → Option ℕ → Option StaticObj
object_at objects None = None
object_at objects (Some place) = slice_get objects place

-- each key has the place of the first of these objects that has it
pub record FindsPlaces (find : Key → Option ℕ) (objects : List StaticObj) : Type 0 where
  pub finds : (key : Key) → find key ≡ place_from 0 objects key

-- a place more, where none had its key
pub record AddsPlace (old : Key → Option ℕ) (key : Key) (place : ℕ) (new : Key → Option ℕ) : Type 0 where
  pub adds : (other : Key) → new other ≡ option_or (old other) (if key_eq key other then Some place else None)

-- each key has the place of the first of the objects that has it: one that is found already, or else one of the rest
pub record FindsPlacesAfter (find : Key → Option ℕ) (place : ℕ) (rest objects : List StaticObj) : Type 0 where
  pub finds : (key : Key) → option_or (find key) (place_from place rest key) ≡ place_from 0 objects key
