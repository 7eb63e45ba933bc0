-- Yardstick: to be compared with what it restates (docs/TRUST.md).
-- What a module defines.
use Rattle.std.specs.Prelude.{ℕ, List, [], ◌∷◌, Option, None, Some, if◌then◌else◌}
use Rattle.std.specs.Str.{bytes_eq}
use Rattle.sc_core.specs.declared.module.Fun.{Fun}

-- the first of these functions that has this name
abbrev pub function_of : List ℕ → List Fun → Option Fun
function_of name [] = None
function_of name (f ∷ funs) = if bytes_eq f.name name then Some f else function_of name funs
