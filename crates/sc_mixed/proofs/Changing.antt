-- A run that goes over to other texts; and one that was taken over stands where it stood.
use Rattle.std.proofs.Common.{◌≡◌, ℕ, Bool, true, false, List, [], ◌++◌, append-nil, refl, sym, ap, subst, ◌∙◌, Option, Some, None, Result, Ok, Err, IfOk, MatchOption, true≢false}
use Rattle.sc_base.specs.declared.key.Key.{Key}
use Rattle.sc_mem.specs.Safe.{Store}
use Rattle.sc_program.specs.declared.storage.StaticId.{StaticId}
use Rattle.sc_interp_machine.specs.Runs.{Caller}
use Rattle.sc_isa_image.specs.declared.image.Image.{Image}
use Rattle.sc_interp_access.specs.Gives.{Stops}
use Rattle.sc_interp_access.specs.declared.ended.Ended.TheVariants as ended
use Rattle.sc_interp_access.specs.declared.stop.Stop.{Stop}
use Rattle.sc_interp_access.specs.declared.stop.Stop.TheVariants as stop
use Rattle.sc_meaning.specs.Changes.{changed}
use Rattle.sc_meaning.specs.Outcomes.{Outcome, Done, Ending, Over}
use Rattle.sc_meaning.specs.Versions.{Text}
use Rattle.sc_meaning.specs.World.{World}
use Rattle.sc_world.specs.Standing.{standing}
use Rattle.sc_world.specs.Standing.{Standing as Alone}
use Rattle.sc_world.specs.declared.count.Count.{Count}
use Rattle.sc_world.specs.declared.course.Course.{Course as Went}
use Rattle.sc_mixed.specs.Changing.{Changes, ChangesIf, ChangesTo, IsPlaced, IsTakenFrom, course_by, goes_on, is_short, taken_calls, taken_course}
use Rattle.sc_mixed.specs.Standing.{Standing, standing_over, stopped_so}
use Rattle.sc_mixed.specs.declared.calls.Calls.{Calls}
use Rattle.sc_mixed.specs.declared.course.Course.{Course}
use Rattle.sc_mixed.specs.declared.course.Course.TheVariants as way
use Rattle.sc_mixed.specs.declared.ended.MixedEnd.TheVariants.{Meant}

pub seen_course : (memory : Option Store) (shown : Bool) (course : Went) → MatchOption memory (shown ≡ false) (λ _. shown ≡ true) → shown ≡ true → taken_course course ≡ course_by memory course
seen_course None shown course is sees = absurd (true≢false (sym sees ∙ is))
seen_course (Some m) shown course is sees = refl

pub unseen_course : (memory : Option Store) (shown : Bool) (course : Went) → MatchOption memory (shown ≡ false) (λ _. shown ≡ true) → shown ≡ false → way.Over (Meant ended.NoRoom) ≡ course_by memory course
unseen_course None shown course is hides = refl
unseen_course (Some m) shown course is hides = absurd (true≢false (sym is ∙ hides))

pub is_taken : (run : Option Alone) (i : Image) (course : Went) (cs : List Caller) (w v : World) (c : Count) (calls : Calls) (next : Course) → standing course cs w c ≡ run → v ≡ record w { beside = v.beside } → calls ≡ taken_calls cs → next ≡ course_by v.beside.memory course
    → IsTakenFrom run i (record { world = v; image = i; calls = calls; course = next })
is_taken run i course cs w v c calls next stood seen one two = record {
  course = course;
  callers = cs;
  count = c;
  world = w;
  stood = sym stood;
  same = seen;
  stands = λ t. record { world = v; image = i; calls = one t; course = two t };
}

-- ---- what is born from here on stands elsewhere

placed_by : (memory : Option Store) (mid v : World) (places : List (StaticId × ℕ)) → MatchOption memory (v ≡ mid) (λ _. v ≡ record mid { beside = record mid.beside { places = places } }) → v ≡ record mid { beside = record mid.beside { places = v.beside.places } }
placed_by None mid v places is = is ∙ ap (λ (u : World). record mid { beside = record mid.beside { places = u.beside.places } }) (sym is)
placed_by (Some m) mid v places is = is ∙ ap (λ (ps : List (StaticId × ℕ)). record mid { beside = record mid.beside { places = ps } }) (sym (ap (λ (u : World). u.beside.places) is))

numbered_by : (memory : Option Store) (w mid : World) (more : List Key) → MatchOption memory (mid ≡ w) (λ _. mid ≡ record w { beside = record w.beside { functions = w.beside.functions ++ more } }) → (extra : List Key) × (mid.beside.functions ≡ w.beside.functions ++ extra)
numbered_by None w mid more is = ([], ap (λ (u : World). u.beside.functions) is ∙ sym (append-nil w.beside.functions))
numbered_by (Some m) w mid more is = (more, ap (λ (u : World). u.beside.functions) is)

pub placed_anew : (w mid v : World) (more : List Key) (places : List (StaticId × ℕ)) → mid ≡ record w { beside = record w.beside { functions = mid.beside.functions } }
    → MatchOption w.beside.memory (mid ≡ w) (λ _. mid ≡ record w { beside = record w.beside { functions = w.beside.functions ++ more } })
    → MatchOption mid.beside.memory (v ≡ mid) (λ _. v ≡ record mid { beside = record mid.beside { places = places } }) → IsPlaced w v
placed_anew w mid v more places numbered most placed =
    let put : v ≡ record mid { beside = record mid.beside { places = v.beside.places } } = placed_by mid.beside.memory mid v places placed in
    let functions : v.beside.functions ≡ mid.beside.functions = ap (λ (u : World). u.beside.functions) put in
    let extra = numbered_by w.beside.memory w mid more most in
    record {
      more = extra.0;
      functions = functions ∙ extra.1;
      same = put ∙ ap (λ (u : World). record u { beside = record u.beside { places = v.beside.places } }) numbered
          ∙ ap (λ (fs : List Key). record w { beside = record w.beside { functions = fs; places = v.beside.places } }) (sym functions);
    }

-- ---- a change

-- that the run goes on behind
pub done_so : (out : Outcome (Unit {0})) (m n : Standing) (w : World) → out ≡ Done tt w → n ≡ record m { world = w } → ChangesTo out m n
done_so out m n w d is = subst (λ (x : Outcome (Unit {0})). ChangesTo x m n) (sym d) is

ends-so : (e : Ending) (m n : Standing) (w : World) (s : Stop) → ChangesTo (Over e) m (standing_over m.image m.calls w (Meant (stopped_so s))) → n ≡ standing_over m.image m.calls w (Meant (stopped_so s)) → ChangesTo (Over e) m n
ends-so e m n w s there is = subst (λ (x : Standing). ChangesTo (Over e) m x) (sym is) there

over-so : (out : Outcome (Unit {0})) (s : Stop) (m n : Standing) (w : World) → Stops out s w → is_short s ≡ false → n ≡ standing_over m.image m.calls w (Meant (stopped_so s)) → ChangesTo out m n
over-so out stop.NoRoom m n w stops short is = absurd (true≢false short)
over-so out (stop.Undefined b) m n w stops short is = subst (λ (x : Outcome (Unit {0})). ChangesTo x m n) (sym (stops _ refl)) (ends-so _ m n w (stop.Undefined b) (ended.Undefined b, refl, refl) is)
over-so out (stop.Exit status) m n w stops short is = subst (λ (x : Outcome (Unit {0})). ChangesTo x m n) (sym (stops _ refl)) (ends-so _ m n w (stop.Exit status) (ended.Exit status, refl, refl) is)
over-so out (stop.StackFull key) m n w stops short is = subst (λ (x : Outcome (Unit {0})). ChangesTo x m n) (sym (stops _ refl)) (ends-so _ m n w (stop.StackFull key) (ended.StackFull key, refl, refl) is)
over-so out stop.BirthLimit m n w stops short is = subst (λ (x : Outcome (Unit {0})). ChangesTo x m n) (sym (stops _ refl)) (ends-so _ m n w stop.BirthLimit (ended.BirthLimit, refl, refl) is)

-- that ends it, or no memory was left
pub follow_ends : {E : Type 0} (r : Result (Unit {0}) E) (old new : List Text) (at m n : Standing) (w : World) (s : Stop) → at ≡ m → Stops (changed old new at.world) s w → IfOk r (λ _. is_short s ≡ false) → IfOk r (λ _. n ≡ standing_over at.image at.calls w (Meant (stopped_so s))) → IfOk r (λ _. ChangesTo (changed old new m.world) m n)
follow_ends (Ok u) old new at m n w s view stops short is = subst (λ (x : Standing). ChangesTo (changed old new x.world) x n) view (over-so (changed old new at.world) s at n w stops short is)
follow_ends (Err x) old new at m n w s view stops short is = tt

if-on : (b : Bool) (old new : List Text) (m n : Standing) (u : World) → b ≡ true → IsPlaced m.world u → ChangesTo (changed old new u) m n → ChangesIf b old new m n
if-on true old new m n u e placed p = (u, placed, p)
if-on false old new m n u e placed p = absurd (true≢false (sym e))

from-there : (out : Outcome (Unit {0})) (m n : Standing) (u : World) → ChangesTo out (record m { world = u }) n → ChangesTo out m n
from-there (Done t w) m n u p = p
from-there (Over e) m n u p = p

-- the change of a run for which objects are placed anew
pub changed_where : {E : Type 0} (r : Result (Unit {0}) E) (old new : List Text) (at m n : Standing) (u : World) → at ≡ m → goes_on at.course ≡ true → IsPlaced at.world u → IfOk r (λ _. ChangesTo (changed old new u) (record at { world = u }) n) → IfOk r (λ _. Changes old new m n)
changed_where (Ok t) old new at m n u view on placed p = subst (λ (x : Standing). Changes old new x n) view (if-on (goes_on at.course) old new at n u on placed (from-there (changed old new u) at n u p))
changed_where (Err x) old new at m n u view on placed p = tt
