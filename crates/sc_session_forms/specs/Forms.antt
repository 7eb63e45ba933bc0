-- Yardstick: to be compared with what it restates (docs/TRUST.md).
-- The forms of a program's modules, and its functions by their numbers.
use Rattle.std.specs.Prelude.{Bool, true, false, List, ◌++◌}
use Rattle.std.specs.List.{list_all}
use Rattle.sc_base.specs.declared.key.Key.{Key}
use Rattle.sc_base.specs.declared.memory.Form.{Form}
use Rattle.sc_base.specs.declared.memory.Form.TheVariants as form
use Rattle.sc_interp_parts.specs.Layouts.{keys_of}
use Rattle.sc_meaning.specs.Names.{library}
use Rattle.sc_meaning.specs.Versions.{Text}

abbrev pub is_source : Form → Bool
is_source form.Source = true
is_source form.Object = false

-- all modules are interpreted
abbrev pub are_sources : List Text → Bool
are_sources texts = list_all (λ t. is_source t.form) texts

-- the functions by their numbers, the library's first
abbrev pub functions_by : List Key → List Key
functions_by numbers = keys_of library ++ numbers
