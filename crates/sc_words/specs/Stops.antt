-- Yardstick: to be compared with what it restates (docs/TRUST.md).
-- Which events the set stops match.
use Rattle.std.specs.Prelude.{ℕ, Bool, true, false, ◌&&◌, Option, Some, None, List, ◌==◌}
use Rattle.std.specs.List.{list_any}
use Rattle.std.specs.Str.{bytes_eq}
use Rattle.sc_words.specs.declared.stop.StopAt.{StopAt}
use Rattle.sc_words.specs.declared.stop.StopAt.TheVariants.{InFun, AtLine}
use Rattle.sc_words.specs.declared.stop.Event.{Event}
use Rattle.sc_words.specs.declared.stop.Event.TheVariants.{Enter, At}

-- the key has external linkage
abbrev pub is_external : Option (List ℕ) → Bool
is_external None = true
is_external (Some home) = false

-- A function alone is the external one, and a function behind a module is the one that this module defines. A line is
-- a line of its module.
abbrev pub stops_at : Event → StopAt → Bool
stops_at (Enter key home) (InFun None fun) = is_external key.«module» && bytes_eq key.name fun
stops_at (Enter key home) (InFun (Some name) fun) = bytes_eq home name && bytes_eq key.name fun
stops_at (At home line) (AtLine name number) = bytes_eq home name && line == number
stops_at _ _ = false

abbrev pub is_matched : List StopAt → Event → Bool
is_matched stops event = list_any (stops_at event) stops
