-- Yardstick: to be compared with what it restates (docs/TRUST.md).
-- What the versions of a program bear in a run that goes through them (ANSI 3.1.2.4): the objects of static storage duration that are not
-- kept, and the literals that were in no version before.
use Rattle.std.specs.Prelude.{ℕ, ◌+◌, Bool, true, not, if◌then◌else◌, List, [], ◌∷◌, ◌++◌, length, Option, Some, None}
use Rattle.std.specs.List.{filter, list_any}
use Rattle.sc_program.specs.declared.storage.StaticId.{StaticId}
use Rattle.sc_program.specs.declared.storage.StaticId.TheVariants.{Named, Literal}
use Rattle.sc_meaning.specs.Versions.{Text, Definition, object_in, is_kept, births_of}
use Rattle.sc_meaning.specs.World.{same_id}
use Rattle.sc_session_conflicts.specs.Clashes.{is_other}
use Rattle.sc_session_conflicts.specs.Spaces.{room_for, size_if, statics_with}

-- an object with a name stays as one version follows another; of literals nothing is said here
abbrev pub stays_by : List Text → List Text → StaticId → Bool
stays_by old new (Named key) = is_kept old new key
stays_by old new (Literal home bytes) = true

-- the objects with a name that the change from one version to another bears
abbrev pub borne_among : List Text → List Text → List StaticId → List StaticId
borne_among old new births = filter (λ id. not (stays_by old new id)) births

abbrev pub borne : List Text → List Text → List StaticId
borne old new = borne_among old new (births_of new)

abbrev pub is_among : StaticId → List StaticId → Bool
is_among id ids = list_any (same_id id) ids

-- an object with a name is borne by its change alone, and a literal once in a run
abbrev pub was_there : List StaticId → StaticId → Bool
was_there ever (Named key) = true
was_there ever (Literal home bytes) = is_among (Literal home bytes) ever

-- the literals that a version bears, where these objects and literals were ever there
abbrev pub literals_among : List StaticId → List StaticId → List StaticId
literals_among ever births = filter (λ id. not (was_there ever id)) births

abbrev pub literals_borne : List StaticId → List Text → List StaticId
literals_borne ever new = literals_among ever (births_of new)

-- ---- the objects that wait to be borne

abbrev pub borne_through : List Text → List (List Text) → List StaticId
borne_through old [] = []
borne_through old (new ∷ later) = borne old new ++ borne_through new later

-- what a run has to bear that goes through these versions, from the first on
abbrev pub waits : List (List Text) → List StaticId
waits [] = []
waits (first ∷ later) = borne_through first later

-- ---- the room that they take

abbrev pub defined_room : Option Definition → ℕ
defined_room None = 0
defined_room (Some d) = room_for (size_if d.text.core.structs d.object.of)

abbrev pub id_room : List Text → StaticId → ℕ
id_room texts (Named key) = defined_room (object_in texts key)
id_room texts (Literal home bytes) = room_for (length bytes)

abbrev pub ids_room : List Text → List StaticId → ℕ
ids_room texts [] = 0
ids_room texts (id ∷ ids) = id_room texts id + ids_room texts ids

-- what one version bears behind another
abbrev pub step_room : List StaticId → List Text → List Text → ℕ
step_room ever old new = ids_room new (borne old new) + ids_room new (literals_borne ever new)

-- and what some versions bear, and one more behind them
abbrev pub room_through : List StaticId → List Text → List (List Text) → List Text → ℕ
room_through ever old [] last = step_room ever old last
room_through ever old (new ∷ later) last = step_room ever old new + room_through (ever ++ births_of new) new later last

-- the texts with one that is new, behind those of other modules
abbrev pub with_text : Text → List Text → List Text
with_text new [] = new ∷ []
with_text new (t ∷ ts) = if is_other new.core t then t ∷ with_text new ts else with_text new ts

-- The bytes of static storage that a program takes with a text that is new: outside of a run those of its modules; in a run that began with
-- the first of these versions all that it has borne, and all that it bears with the text.
abbrev pub statics_by : List (List Text) → List Text → Text → ℕ
statics_by [] present new = statics_with new.core present
statics_by (first ∷ later) present new = room_through [] [] (first ∷ later) (with_text new present)
