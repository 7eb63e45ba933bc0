-- Yardstick: to be compared with what it restates (docs/TRUST.md).
-- The modules that are present.
use Rattle.std.specs.Prelude.{ℕ, ◌==◌, if◌then◌else◌, List, [], ◌∷◌, Option, Some, None}
use Rattle.std.specs.Str.{bytes_eq}
use Rattle.sc_base.specs.declared.memory.Form.TheVariants.{Source}
use Rattle.sc_build.specs.declared.building.Built.{Built}
use Rattle.sc_eval.specs.declared.starting.Kept.{Kept}
use Rattle.sc_core_names.specs.declared.table.Scopes.{Scopes}
use Rattle.sc_object.specs.declared.object.Object.{Object}
use Rattle.sc_meaning.specs.Versions.{Text}
use Rattle.sc_session_forms.specs.declared.calls.Compiled.{Compiled}
use Rattle.sc_session.specs.declared.choice.Choice.{Choice}
use Rattle.sc_session.specs.declared.choice.Choice.TheVariants as choice
use Rattle.sc_session.specs.declared.present.Present.{Present}

-- a module that was translated is interpreted; its text gets this number
abbrev pub present_of : ℕ → Built → Present
present_of number built = record {
  text = record { number = number; core = built.core; form = Source };
  scopes = built.scopes;
  places = built.places;
  kept = built.kept;
  object = built.object;
  fast = built.fast;
  choice = choice.Plain;
}

-- the texts of modules, in their order
abbrev pub texts : List Present → List Text
texts [] = []
texts (p ∷ ps) = p.text ∷ texts ps

-- what the text with a number declares
abbrev pub scopes_numbered : List Present → ℕ → Option Scopes
scopes_numbered [] n = None
scopes_numbered (p ∷ ps) n = if p.text.number == n then Some p.scopes else scopes_numbered ps n

-- that object of a module
abbrev pub object_by : Choice → Present → Object
object_by choice.Plain p = p.object
object_by choice.Fast p = p.fast

-- that object of the module with a name
abbrev pub object_named : List Present → List ℕ → Choice → Option Object
object_named [] name c = None
object_named (p ∷ ps) name c = if bytes_eq p.text.core.name name then Some (object_by c p) else object_named ps name c

-- what is kept of the text of the module with a name
abbrev pub kept_named : List Present → List ℕ → Option Kept
kept_named [] name = None
kept_named (p ∷ ps) name = if bytes_eq p.text.core.name name then Some p.kept else kept_named ps name

-- The objects of modules by the numbers of their texts. Both objects of a module have frames alike (`objects_are_alike` of `sc_build`).
abbrev pub compiled : List Present → List Compiled
compiled [] = []
compiled (p ∷ ps) = record { number = p.text.number; object = p.object } ∷ compiled ps
