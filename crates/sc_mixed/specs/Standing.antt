-- Yardstick: to be compared with what it restates (docs/TRUST.md).
-- Where a run of both forms stands.
use Rattle.std.specs.Prelude.{◌≡◌, ℕ, Bool, true, false, List, [], ◌∷◌, Option, Some, None}
use Rattle.sc_interp.specs.declared.going.Going.{Going}
use Rattle.sc_interp.specs.declared.going.Going.TheVariants as going
use Rattle.sc_interp.specs.declared.stepped.Shown.{Shown}
use Rattle.sc_interp_access.specs.declared.ended.Ended.TheVariants as ended
use Rattle.sc_interp_access.specs.declared.stop.Stop.{Stop}
use Rattle.sc_interp_access.specs.declared.stop.Stop.TheVariants as stop
use Rattle.sc_interp_access.specs.declared.ended.Ended.{Ended}
use Rattle.sc_interp_machine.specs.Runs.{Caller, State}
use Rattle.sc_isa_image.specs.declared.image.Image.{Image}
use Rattle.sc_meaning.specs.Behaviour.{status_of}
use Rattle.sc_meaning.specs.Expressions.{Answer}
use Rattle.sc_meaning.specs.World.{World}
use Rattle.sc_world.specs.Declaring.{declaring_by}
use Rattle.sc_mixed.specs.declared.broken.Break.{Break}
use Rattle.sc_mixed.specs.declared.broken.Break.TheVariants as broken
use Rattle.sc_mixed.specs.declared.calls.Calls.{Calls}
use Rattle.sc_mixed.specs.declared.calls.Lower.{Lower}
use Rattle.sc_mixed.specs.declared.calls.Next.{Next}
use Rattle.sc_mixed.specs.declared.calls.Next.TheVariants.{Steps, Executes, Serves}
use Rattle.sc_mixed.specs.declared.course.Course.{Course}
use Rattle.sc_mixed.specs.declared.course.Course.TheVariants.{On, Over}
use Rattle.sc_mixed.specs.declared.ended.MixedEnd.{MixedEnd}
use Rattle.sc_mixed.specs.declared.ended.MixedEnd.TheVariants.{Meant, Crashed}

-- the world; the image; the calls of both forms and the registers; and what comes next, with what the last move showed and no go looked at
-- yet, or how the run ended
pub record Standing : Type 0 where
  pub world : World
  pub image : Image
  pub calls : Calls
  pub course : Course

abbrev pub standing_on : Image → Calls → World → Next → Shown → Standing
standing_on i c w next now = record { world = w; image = i; calls = c; course = On next now }

abbrev pub standing_over : Image → Calls → World → MixedEnd → Standing
standing_over i c w end = record { world = w; image = i; calls = c; course = Over end }

-- how a run ended, where it is over
abbrev pub end_in : Course → Option MixedEnd
end_in (On next now) = None
end_in (Over end) = Some end

abbrev pub end_of : Standing → Option MixedEnd
end_of m = end_in m.course

-- no room was left for the run, and nothing is known of it
abbrev pub IsLost : Standing → Type 0
IsLost m = m.course ≡ Over (Meant ended.NoRoom)

-- why a move is not done, as the end of the run
abbrev pub stopped_so : Stop → Ended
stopped_so stop.NoRoom = ended.NoRoom
stopped_so (stop.Undefined b) = ended.Undefined b
stopped_so (stop.Exit status) = ended.Exit status
stopped_so (stop.StackFull key) = ended.StackFull key
stopped_so stop.BirthLimit = ended.BirthLimit

abbrev pub ended_by : Break → MixedEnd
ended_by (broken.Meant stopped) = Meant (stopped_so stopped)
ended_by (broken.Crashed pc cause) = Crashed pc cause

-- the status of the answer with which a run is over: no call waits for it
abbrev pub status_among : Answer → List Caller → List Lower → Option ℕ
status_among a [] [] = Some (status_of a)
status_among a [] (l ∷ ls) = None
status_among a (c ∷ cs) ls = None

abbrev pub status_in : Going → Calls → Option ℕ
status_in (going.Runs doing ss env a) c = None
status_in (going.Makes t x xs caller) c = None
status_in (going.Answers a) c = status_among a c.callers c.lower

abbrev pub status_at : Next → Calls → Option ℕ
status_at (Steps g) c = status_in g c
status_at Executes c = None
status_at (Serves n) c = None

-- the object that is initialised next, if one is
abbrev pub declaring_in : Going → Option ℕ
declaring_in (going.Runs doing ss env a) = declaring_by doing
declaring_in (going.Makes t x xs caller) = None
declaring_in (going.Answers a) = None

abbrev pub declaring_next : Next → Option ℕ
declaring_next (Steps g) = declaring_in g
declaring_next Executes = None
declaring_next (Serves n) = None

abbrev pub declaring_at : Course → Option ℕ
declaring_at (On next now) = declaring_next next
declaring_at (Over end) = None
