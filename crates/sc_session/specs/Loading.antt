-- Yardstick: to be compared with what it restates (docs/TRUST.md).
-- What `load`, `edit` and `unload` do to the modules.
use Rattle.std.specs.Prelude.{◌≡◌, ℕ, not, if◌then◌else◌, List, [], ◌∷◌, ◌++◌, length, take, slice_set, ◌<◌, Option, Some, None, codes}
use Rattle.std.specs.List.{filter}
use Rattle.std.specs.Str.{bytes_eq}
use Rattle.sc_base.specs.declared.key.Key.{Key}
use Rattle.sc_core.specs.declared.module.Core.{Core}
use Rattle.sc_meaning.specs.Versions.{Text}
use Rattle.sc_session_conflicts.specs.Clashes.{Named, doubled, clashing, is_other}
use Rattle.sc_session_conflicts.specs.Births.{statics_by}
use Rattle.sc_session_conflicts.specs.Spaces.{over_limit, modules_with}
use Rattle.sc_core_held.specs.Numbers.{mentioned}
use Rattle.sc_words.specs.declared.denied.Area.{Area}
use Rattle.sc_words.specs.declared.denied.Denied.{Denied}
use Rattle.sc_words.specs.declared.denied.Denied.TheVariants as denied
use Rattle.sc_session.specs.Modules.{texts}
use Rattle.sc_session.specs.States.{or_else}
use Rattle.sc_session.specs.declared.present.Present.{Present}
use Rattle.sc_session.specs.declared.joining.Taken.{Taken}
use Rattle.sc_session.specs.declared.joining.Taken.TheVariants as taken

-- the file of a module, where none is named
abbrev pub file_of : List ℕ → List ℕ
file_of name = name ++ codes ".c"

abbrev pub file_or : List ℕ → Option (List ℕ) → List ℕ
file_or name None = file_of name
file_or name (Some file) = file

-- a name that both define, and a name that they declare with types that do not go together
abbrev pub if_doubled : Option Named → Option Denied → Option Denied
if_doubled (Some found) later = Some (denied.Doubled found.0 found.1)
if_doubled None later = later

abbrev pub if_clashing : Option Named → Option Denied → Option Denied
if_clashing (Some found) later = Some (denied.Clash found.0 found.1)
if_clashing None later = later

abbrev pub if_full : Option Area → Option Denied
if_full (Some a) = Some (denied.Space a)
if_full None = None

-- where functions get their numbers in the order in which they are first declared
abbrev pub numbers_with : List Key → Core → List Key
numbers_with numbers core = mentioned numbers core.declared

-- a run that stays goes through these versions of the modules; elsewhere there are none
abbrev pub full : List (List Text) → List Text → List Key → Text → Option Denied
full versions modules numbers new =
    if_full (over_limit (modules_with new.core modules) (length (numbers_with numbers new.core)) (statics_by versions modules new))

abbrev pub name_conflict : List Text → Core → Option Denied
name_conflict modules core = if_doubled (doubled modules core) (if_clashing (clashing modules core) None)

-- why a module does not go with the others that are present: by its names first, then by what it takes
abbrev pub conflict : List (List Text) → List Text → List Key → Text → Option Denied
conflict versions modules numbers new = or_else (name_conflict modules new.core) (full versions modules numbers new)

-- the modules with one more
abbrev pub with_module : List Present → Present → List Present
with_module modules new = modules ++ new ∷ []

-- the modules where one is translated anew, and stands in the place of the old one
abbrev pub in_place : List Present → Present → List Present
in_place [] new = []
in_place (p ∷ ps) new = if is_other new.text.core p.text then p ∷ in_place ps new else new ∷ ps

-- the modules without one
abbrev pub without : List ℕ → List Present → List Present
without name modules = filter (λ p. not (bytes_eq p.text.core.name name)) modules

-- ---- what the code finds

-- whether there is room for a module, and whether it goes with the others, as the code finds it: its functions have their numbers
-- then
abbrev pub Numbered : List Key → Core → List Key → Type 0
Numbered numbers core new = (new ≡ numbers_with numbers core) × (take (length numbers) new ≡ numbers)

abbrev pub Fills : List (List Text) → List Text → List Key → Text → Option Denied → List Key → Type 0
Fills versions modules numbers new None now = (full versions modules numbers new ≡ None) × Numbered numbers new.core now
Fills versions modules numbers new (Some d) now = (full versions modules numbers new ≡ Some d) × (now ≡ numbers)

abbrev pub Judges : List (List Text) → List Text → List Key → Text → Option Denied → List Key → Type 0
Judges versions modules numbers new None now = (conflict versions modules numbers new ≡ None) × Numbered numbers new.core now
Judges versions modules numbers new (Some d) now = (conflict versions modules numbers new ≡ Some d) × (now ≡ numbers)

-- What becomes of a module that was translated, and of the modules and the numbers. Where it goes with the others, the modules are
-- those that are placed so.
abbrev pub Takes : List (List Text) → List Present → List Key → Present → List Present → Taken → List Present → List Key → Type 0
Takes versions modules numbers new placed taken.Joined after now =
    (conflict versions (texts modules) numbers new.text ≡ None) × (after ≡ placed) × Numbered numbers new.text.core now
Takes versions modules numbers new placed (taken.Denied d) after now =
    (conflict versions (texts modules) numbers new.text ≡ Some d) × (after ≡ modules) × (now ≡ numbers)
Takes versions modules numbers new placed taken.NoMemory after now = (after ≡ modules) × (now ≡ numbers)

-- the place of the module that has a module's name
pub record IsPlace (modules : List Present) (new : Present) (i : ℕ) : Type 0 where
  pub inside : i < length modules
  pub placed : in_place modules new ≡ slice_set modules i new
