-- Yardstick: to be compared with what it restates (docs/TRUST.md).
-- A run of both forms whose texts become others; and a run of interpreted modules that becomes one of both forms.
use Rattle.std.specs.Prelude.{◌≡◌, if◌then◌else◌, Bool, true, false, List, [], ◌∷◌, ◌++◌, flat_map, Option, None, Some}
use Rattle.sc_base.specs.declared.key.Key.{Key}
use Rattle.sc_interp.specs.Ends.{end_of}
use Rattle.sc_interp_access.specs.declared.ended.Ended.{Ended}
use Rattle.sc_interp_access.specs.declared.ended.Ended.TheVariants.{NoRoom}
use Rattle.sc_interp_access.specs.declared.stop.Stop.{Stop}
use Rattle.sc_interp_access.specs.declared.stop.Stop.TheVariants as stop
use Rattle.sc_interp_machine.specs.Runs.{Caller}
use Rattle.sc_isa_image.specs.declared.image.Image.{Image}
use Rattle.sc_mem.specs.Safe.{Store}
use Rattle.sc_meaning.specs.Changes.{changed}
use Rattle.sc_meaning.specs.Outcomes as outcomes
use Rattle.sc_meaning.specs.Outcomes.{Outcome, Done}
use Rattle.sc_meaning.specs.Versions.{Text, births_of, is_kept}
use Rattle.sc_meaning.specs.World.{World}
use Rattle.sc_program.specs.declared.storage.StaticId.{StaticId}
use Rattle.sc_program.specs.declared.storage.StaticId.TheVariants as id
use Rattle.sc_world.specs.Standing.{standing}
use Rattle.sc_world.specs.Standing.{Standing as Alone}
use Rattle.sc_world.specs.declared.count.Count.{Count}
use Rattle.sc_world.specs.declared.course.Course.{Course as Went}
use Rattle.sc_world.specs.declared.course.Course.TheVariants as went
use Rattle.sc_mixed.specs.Standing.{Standing, standing_over}
use Rattle.sc_mixed.specs.Starting.{no_calls}
use Rattle.sc_mixed.specs.declared.calls.Calls.{Calls}
use Rattle.sc_mixed.specs.declared.calls.Next.TheVariants.{Steps}
use Rattle.sc_mixed.specs.declared.course.Course.{Course}
use Rattle.sc_mixed.specs.declared.course.Course.TheVariants.{On, Over}
use Rattle.sc_mixed.specs.declared.ended.MixedEnd.TheVariants.{Meant}

-- the keys of the objects that stay
abbrev pub kept_of : List Text → List Text → StaticId → List Key
kept_of old new (id.Named key) = if is_kept old new key then key ∷ [] else []
kept_of old new (id.Literal home bytes) = []

abbrev pub kept_keys : List Text → List Text → List Key
kept_keys old new = flat_map (kept_of old new) (births_of old)

-- it goes on from the same place in the changed world, or is over as the change ended it
abbrev pub ChangesTo : Outcome (Unit {0}) → Standing → Standing → Type 0
ChangesTo (Done t w) m n = n ≡ record m { world = w }
ChangesTo (outcomes.Over e) m n = (ended : Ended) × (n ≡ standing_over m.image m.calls n.world (Meant ended)) × (end_of ended n.world ≡ Some e)

abbrev pub goes_on : Course → Bool
goes_on (On next now) = true
goes_on (Over end) = false

-- More functions have numbers, and static objects that are born from here on stand at other places; nothing else has changed of a world.
pub record IsPlaced (w v : World) : Type 0 where
  pub more : List Key
  pub functions : v.beside.functions ≡ w.beside.functions ++ more
  pub same : v ≡ record w { beside = record w.beside { functions = v.beside.functions; places = v.beside.places } }

abbrev pub ChangesIf : Bool → List Text → List Text → Standing → Standing → Type 0
ChangesIf true old new m n = (w : World) × IsPlaced m.world w × ChangesTo (changed old new w) m n
ChangesIf false old new m n = n ≡ m

-- a run goes over from one version to another; one that is over stays as it is
abbrev pub Changes : List Text → List Text → Standing → Standing → Type 0
Changes old new m n = ChangesIf (goes_on m.course) old new m n

-- no memory was left, which is no end that a change has
abbrev pub is_short : Stop → Bool
is_short stop.NoRoom = true
is_short (stop.Undefined b) = false
is_short (stop.Exit status) = false
is_short (stop.StackFull key) = false
is_short stop.BirthLimit = false

-- how a run of interpreted modules goes on as one of both forms
abbrev pub taken_course : Went → Course
taken_course (went.On going now) = On (Steps going) now
taken_course (went.Over ended) = Over (Meant ended)

-- where the objects have no places in memory the run is over for want of it
abbrev pub course_by : Option Store → Went → Course
course_by None course = Over (Meant NoRoom)
course_by (Some memory) course = taken_course course

abbrev pub taken_calls : List Caller → Calls
taken_calls cs = record no_calls { callers = cs }

-- It stands where that run stood, with the same callers and the same world, but that objects have places in memory now; no compiled call is
-- active in it.
pub record IsTakenFrom (run : Option Alone) (i : Image) (m : Standing) : Type 0 where
  pub course : Went
  pub callers : List Caller
  pub count : Count
  pub world : World
  pub stood : run ≡ standing course callers world count
  pub same : m.world ≡ record world { beside = m.world.beside }
  pub stands : m ≡ record { world = m.world; image = i; calls = taken_calls callers; course = course_by m.world.beside.memory course }
