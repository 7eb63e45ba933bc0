-- Machine: the program once more; a theorem ties it to a yardstick (docs/TRUST.md).
-- Where the modules of a run are placed that stays while they change, version by version: what was placed stays where it is, and what is new is
-- placed behind it (`Running` of sc_image). And which area has no room for that.
use Rattle.std.specs.Prelude.{◌≡◌, ◌⊎◌, ℕ, ◌==◌, ◌-◌, if◌then◌else◌, List, [], ◌∷◌, ◌++◌, find, length, map, slice_get, Option, Some, None}
use Rattle.std.specs.Str.{bytes_eq}
use Rattle.sc_base.specs.declared.key.Key.{Key}
use Rattle.sc_base.specs.declared.memory.Form.{Form}
use Rattle.sc_base.specs.declared.memory.Form.TheVariants as form
use Rattle.sc_image.specs.Placing.{IsFull, placed_modules}
use Rattle.sc_image.specs.Running.{AreWithin, IsOver, IsShortIn, IsShortOf, in_form, kept_places, present, with_module, without}
use Rattle.sc_isa_image.specs.declared.image.Image.{Image}
use Rattle.sc_link.specs.Linked.{IsLinked}
use Rattle.sc_link.specs.declared.placed.Area.{Area as Place}
use Rattle.sc_link.specs.declared.placed.Area.TheVariants as place
use Rattle.sc_link.specs.declared.placed.LinkFault.TheVariants as fault
use Rattle.sc_link.specs.declared.placed.Placed.{Placed}
use Rattle.sc_mixed.specs.Changing.{kept_keys}
use Rattle.sc_session_forms.specs.Forms.{functions_by}
use Rattle.sc_words.specs.declared.denied.Area.{Area}
use Rattle.sc_words.specs.declared.denied.Area.TheVariants as area
use Rattle.sc_session.specs.declared.choice.Choice.{Choice}
use Rattle.sc_session.specs.declared.choice.Choice.TheVariants as choice
use Rattle.sc_session.specs.declared.linking.ImageFault.{ImageFault}
use Rattle.sc_session.specs.declared.linking.ImageFault.TheVariants as short
use Rattle.sc_session.specs.declared.placing.Way.{Way}
use Rattle.sc_session.specs.declared.placing.Way.TheVariants as way
use Rattle.sc_session.specs.declared.present.Present.{Present}
use Rattle.sc_session.specs.declared.relinking.Plan.{Plan}
use Rattle.sc_session.specs.Linking.{linking_of}
use Rattle.sc_session.specs.Modules.{texts}
use Rattle.sc_session.specs.Plain.{Plain}

-- ---- where they are placed

-- the module of a version with a name
abbrev pub named : List ℕ → List Present → Option Present
named name modules = find (λ p. bytes_eq p.text.core.name name) modules

-- What a module is beside that of its name in the version before: new; translated anew, which is another number; in another form, or with
-- its other object; or the same.
abbrev pub way_by_choice : Choice → Choice → Way
way_by_choice choice.Plain choice.Plain = way.Same
way_by_choice choice.Plain choice.Fast = way.Formed
way_by_choice choice.Fast choice.Plain = way.Formed
way_by_choice choice.Fast choice.Fast = way.Same

abbrev pub way_by : Form → Choice → Form → Choice → Way
way_by form.Source c form.Source d = way.Same
way_by form.Source c form.Object d = way.Formed
way_by form.Object c form.Source d = way.Formed
way_by form.Object c form.Object d = way_by_choice c d

abbrev pub way_from : Option Present → Present → Way
way_from None p = way.New
way_from (Some before) p = if before.text.number == p.text.number then way_by before.text.form before.choice p.text.form p.choice else way.Again

abbrev pub way_of : List Present → Present → Way
way_of old p = way_from (named p.text.core.name old) p

-- A module behind all that was placed before it. These objects stay where they are as it is translated anew, and all of them in another form.
abbrev pub placed_so : Way → List Key → Present → List Placed → List Placed
placed_so way.New kept p es = with_module es (linking_of p) []
placed_so way.Again kept p es = with_module es (linking_of p) kept
placed_so way.Formed kept p es = in_form (linking_of p) es
placed_so way.Same kept p es = es

-- the modules of a version, one behind the other, where those of the version before were these
abbrev pub modules_over : List Present → List Key → List Present → List Placed → List Placed
modules_over old kept [] es = es
modules_over old kept (p ∷ ps) es = modules_over old kept ps (placed_so (way_of old p) kept p es)

-- without those of the version before that are gone
abbrev pub without_if : Option Present → List ℕ → List Placed → List Placed
without_if None name es = without name es
without_if (Some p) name es = es

abbrev pub without_gone : List Present → List Present → List Placed → List Placed
without_gone [] new es = es
without_gone (p ∷ ps) new es = without_gone ps new (without_if (named p.text.core.name new) p.text.core.name es)

-- a version behind the one before it
abbrev pub version_over : List Present → List Present → List Placed → List Placed
version_over old new es = without_gone old new (modules_over old (kept_keys (texts old) (texts new)) new es)

abbrev pub versions_over : List Present → List (List Present) → List Placed → List Placed
versions_over old [] es = es
versions_over old (new ∷ later) es = versions_over new later (version_over old new es)

-- the modules with which a run begins
abbrev pub placed_first : List Present → List Placed
placed_first modules = placed_modules (map linking_of modules)

-- all that is placed in a run with these modules, which were those before each of its changes
abbrev pub placed_over : List (List Present) → List Present → List Placed
placed_over [] modules = placed_first modules
placed_over (first ∷ past) modules = versions_over first (past ++ modules ∷ []) (placed_first first)

-- An image is that of all this, with the functions by their numbers. It is there only where no area lacks room.
pub record IsImageOver (past : List (List Present)) (modules : List Present) (numbers : List Key) (i : Image) : Type 0 where
  pub linked : IsLinked (placed_over past modules) (functions_by numbers) i
  pub room : AreWithin (placed_over past modules) (functions_by numbers)

-- ---- which area has no room

-- the areas as answers name them
abbrev pub InArea : (Place → Type 0) → Area → Type 0
InArea Lacks area.Modules = ⊥
InArea Lacks area.Stubs = Lacks place.Stubs
InArea Lacks area.Text = Lacks place.Text
InArea Lacks area.Static = Lacks place.Static

-- The first area, in the order of their addresses, that has no room for all that is placed. (How many modules there are is asked before.)
pub record LacksRoomOver (past : List (List Present)) (modules : List Present) (numbers : List Key) (a : Area) : Type 0 where
  pub lacks : InArea (IsOver (placed_over past modules) (functions_by numbers)) a

-- ---- what the code finds

-- nothing is said where no memory was left
abbrev pub IsLacking : (Place → Type 0) → ImageFault → Type 0
IsLacking Lacks (short.Space a) = InArea Lacks a
IsLacking Lacks short.NoMemory = Unit {0}

-- for a module, behind all that was placed before it
abbrev pub LacksFor : List Placed → List Key → Present → List Key → Place → Type 0
LacksFor es funs p kept a = IsShortOf es funs (linking_of p) (kept_places es (linking_of p) kept) (fault.Space a)

abbrev pub LacksFormed : List Placed → List Key → Present → Place → Type 0
LacksFormed es funs p a = IsShortIn (present p.text.core.name es) es funs (linking_of p) (fault.Space a)

abbrev pub LacksSo : Way → List Key → List Key → Present → List Placed → Place → Type 0
LacksSo way.New funs kept p es a = LacksFor es funs p [] a
LacksSo way.Again funs kept p es a = LacksFor es funs p kept a
LacksSo way.Formed funs kept p es a = LacksFormed es funs p a
LacksSo way.Same funs kept p es a = ⊥

-- for one of the modules of a version, behind those before it
abbrev pub LacksAmong : List Present → List Key → List Key → List Present → List Placed → Place → Type 0
LacksAmong old funs kept [] es a = ⊥
LacksAmong old funs kept (p ∷ ps) es a = LacksSo (way_of old p) funs kept p es a ⊎ LacksAmong old funs kept ps (placed_so (way_of old p) kept p es) a

-- for a module of a version, behind the version before
abbrev pub LacksIn : List Key → List Present → List Present → List Placed → Place → Type 0
LacksIn funs old new es a = LacksAmong old funs (kept_keys (texts old) (texts new)) new es a

abbrev pub LacksAfter : List Key → List Present → List (List Present) → List Placed → Place → Type 0
LacksAfter funs old [] es a = ⊥
LacksAfter funs old (new ∷ later) es a = LacksIn funs old new es a ⊎ LacksAfter funs new later (version_over old new es) a

-- for the modules with which a run begins, or for a module of a later version
abbrev pub LacksPlaces : List (List Present) → List Present → List Key → Place → Type 0
LacksPlaces [] modules funs a = IsFull (map linking_of modules) funs a
LacksPlaces (first ∷ past) modules funs a = IsFull (map linking_of first) funs a ⊎ LacksAfter funs first (past ++ modules ∷ []) (placed_first first) a

-- what is said of that: where static objects have no room, which cannot be, that no memory was left
abbrev pub lacking : ImageFault → ImageFault
lacking (short.Space area.Static) = short.NoMemory
lacking f = f

-- what is placed behind each version
abbrev pub each_over : List Present → List (List Present) → List Placed → List (List Placed)
each_over old [] es = es ∷ []
each_over old (new ∷ later) es = es ∷ each_over new later (version_over old new es)

abbrev pub each_placed : List (List Present) → List Present → List (List Placed)
each_placed [] modules = placed_first modules ∷ []
each_placed (first ∷ past) modules = each_over first (past ++ modules ∷ []) (placed_first first)

abbrev pub plan_of : Plain → Plan
plan_of session = record {
  functions = functions_by session.numbers;
  placed = each_placed session.past session.modules;
}

-- the last of some lists
abbrev pub last : List (List Placed) → Option (List Placed)
last all = slice_get all (length all - 1)

-- an image is that of the last of some lists; and whether there is room for what this has placed
abbrev pub IsLast : List (List Placed) → List Key → Image → Type 0
IsLast all funs i = (es : List Placed) × (last all ≡ Some es) × IsLinked es funs i

abbrev pub LastWithin : List (List Placed) → List Key → Type 0
LastWithin all funs = (es : List Placed) → last all ≡ Some es → AreWithin es funs

abbrev pub LastOver : List (List Placed) → List Key → Place → Type 0
LastOver all funs a = (es : List Placed) × (last all ≡ Some es) × IsOver es funs a
