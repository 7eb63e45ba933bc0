-- Yardstick: to be compared with what it restates (docs/TRUST.md).
-- The start of a run of both forms: the static objects are born, and the call of the entry goes out.
use Rattle.std.specs.Prelude.{◌≡◌, ⊤, ℕ, Bool, true, false, List, [], Result, Ok, Err, Option, Some, None, replicate}
use Rattle.sc_base.specs.declared.key.Key.{Key}
use Rattle.sc_emu.specs.Operations.{plain}
use Rattle.sc_interp.specs.Ends.{start_of}
use Rattle.sc_interp.specs.Shows.{entry_shown}
use Rattle.sc_interp.specs.declared.going.Going.{Going}
use Rattle.sc_interp.specs.declared.stepped.Shown.{Shown}
use Rattle.sc_interp.specs.declared.stepped.Shown.TheVariants.{Nothing}
use Rattle.sc_interp_access.specs.Gives.{ending_of}
use Rattle.sc_interp_machine.specs.Runs.{Ends}
use Rattle.sc_isa_image.specs.declared.image.Image.{Image}
use Rattle.sc_meaning.specs.Behaviour.{first_world}
use Rattle.sc_meaning.specs.Beside.{Beside, empty_memory}
use Rattle.sc_meaning.specs.Changes.{statics_born}
use Rattle.sc_meaning.specs.Outcomes.{Done, Ending}
use Rattle.sc_meaning.specs.Versions.{Text, callee_of}
use Rattle.sc_meaning.specs.World.{World, GoesOut, pass}
use Rattle.sc_program.specs.declared.storage.StaticId.{StaticId}
use Rattle.sc_world.specs.Goes.{first_from, entry_next}
use Rattle.sc_world.specs.Standing.{state_of}
use Rattle.sc_mixed.specs.Bridge.{Calling, is_code}
use Rattle.sc_mixed.specs.Standing.{Standing, ended_by}
use Rattle.sc_mixed.specs.declared.course.Course.{Course}
use Rattle.sc_mixed.specs.declared.course.Course.TheVariants.{On, Over}
use Rattle.sc_mixed.specs.declared.broken.Break.{Break}
use Rattle.sc_mixed.specs.declared.broken.Break.TheVariants.{Meant, Crashed}
use Rattle.sc_mixed.specs.declared.calls.Calls.{Calls}
use Rattle.sc_mixed.specs.declared.calls.Next.{Next}
use Rattle.sc_mixed.specs.declared.calls.Next.TheVariants.{Steps}

-- no call is there yet, and all registers are 0
abbrev pub no_calls : Calls
no_calls = record { callers = []; lower = []; given = None; regs = record { pc = 0; words = replicate 32 (plain 0) } }

-- the entry is called in the world behind the births: as an interpreted function, by the meaning's step; or as a compiled one
pub record CallsEntry (texts : List Text) (key : Key) (c : Calls) (born : World) (next : Next) (now : Shown) (d : Calls) (v : World) : Type 0 where
  pub going : Going
  pub goes : next ≡ Steps going
  pub state : entry_next texts key c.callers born ≡ state_of going c.callers v
  pub shown : now ≡ entry_shown (entry_next texts key c.callers born)
  pub calls : d ≡ c

abbrev pub EntryGoes : Bool → List Text → Image → Key → Calls → World → Next → Shown → Calls → World → Type 0
EntryGoes false texts i key c born next now d v = CallsEntry texts key c born next now d v
EntryGoes true texts i key c born next now d v = Calling i key [] c (pass GoesOut born) next d v × (now ≡ Nothing)

-- from the births on; where the run ends in them, or in the call, so it does
abbrev pub Begins : List Text → Image → Key → Calls → World → Result (Next × Shown) Break → Calls → World → Type 0
Begins texts i key c w (Ok first) d v = (born : World) × (statics_born texts w ≡ Done tt born) × EntryGoes (is_code (callee_of texts key)) texts i key c born first.0 first.1 d v
Begins texts i key c w (Err (Meant stopped)) d v = (e : Ending) → ending_of stopped v ≡ Some e → first_from texts key c.callers w ≡ Ends e
Begins texts i key c w (Err (Crashed pc cause)) d v = ⊥

-- where it goes on, or how it ended
abbrev pub first_course : Result (Next × Shown) Break → Course
first_course (Ok first) = On first.0 first.1
first_course (Err broken) = Over (ended_by broken)

-- what the machine of such a run keeps as it starts: the functions by their numbers, where static objects stand, and a memory in which
-- nothing lives and no byte is written
abbrev pub kept_first : List Key → List (StaticId × ℕ) → ℕ → ℕ → Beside
kept_first functions places stack heap = record { functions = functions; places = places; memory = Some (empty_memory stack heap) }

-- the world of such a run as it starts
abbrev pub world_first : List Key → List (StaticId × ℕ) → List Text → Key → ℕ → ℕ → List ℕ → World
world_first functions places texts key stack heap input = record (first_world (start_of texts key stack heap input)) { beside = kept_first functions places stack heap }

-- a run of these texts in an image of them, from its start on, with this entry
pub record Starts (texts : List Text) (i : Image) (key : Key) (stack heap : ℕ) (input : List ℕ) (m : Standing) : Type 0 where
  pub functions : List Key
  pub places : List (StaticId × ℕ)
  pub first : Result (Next × Shown) Break
  pub begins : Begins texts i key no_calls (world_first functions places texts key stack heap input) first m.calls m.world
  pub image : m.image ≡ i
  pub course : m.course ≡ first_course first
