-- The start of a run, from its parts.
use Rattle.std.proofs.Common.{◌≡◌, ℕ, Bool, true, false, List, [], Result, Ok, Err, Option, Some, None, refl, ap, sym, subst, ◌∙◌}
use Rattle.sc_base.specs.declared.key.Key.{Key}
use Rattle.sc_emu.specs.declared.outcome.Crash.{Crash}
use Rattle.sc_interp.specs.Shows.{entry_shown}
use Rattle.sc_interp.specs.Steady.{alone, callee_next}
use Rattle.sc_interp.specs.Steps.{Is, Steps as StepsTo}
use Rattle.sc_interp.specs.declared.going.Going.{Going}
use Rattle.sc_interp.specs.declared.stepped.Shown.{Shown}
use Rattle.sc_interp.proofs.Unchanged.{quiet as is_quiet}
use Rattle.sc_interp_access.specs.Gives.{Stops, ending_of}
use Rattle.sc_interp_access.specs.declared.stop.Stop.{Stop}
use Rattle.sc_interp_machine.specs.Runs.{Caller, State, Ends, then_goes}
use Rattle.sc_isa_image.specs.declared.image.Image.{Image}
use Rattle.sc_lib.specs.Quiet.{IsQuiet}
use Rattle.sc_meaning.specs.Changes.{statics_born}
use Rattle.sc_meaning.specs.Outcomes.{Done, Ending, Over}
use Rattle.sc_meaning.specs.Versions.{History, Text, callee_of}
use Rattle.sc_meaning.specs.World.{World, GoesOut, pass}
use Rattle.sc_program.specs.declared.storage.StaticId.{StaticId}
use Rattle.sc_world.specs.Goes.{first_from, entry_next}
use Rattle.sc_world.specs.Standing.{state_of}
use Rattle.sc_world.proofs.Courses.{state_is}
use Rattle.sc_mixed.specs.Bridge.{is_code}
use Rattle.sc_mixed.specs.Parts.{EntryCalled, EntryInCode, EntryInSource}
use Rattle.sc_mixed.specs.Starting.{Begins, CallsEntry, EntryGoes, Starts, first_course, no_calls, world_first}
use Rattle.sc_mixed.proofs.Serving.{no_room}
use Rattle.sc_mixed.specs.declared.broken.Break.{Break}
use Rattle.sc_mixed.specs.declared.broken.Break.TheVariants.{Meant, Crashed}
use Rattle.sc_mixed.specs.declared.calls.Calls.{Calls}
use Rattle.sc_mixed.specs.declared.course.Course.{Course}
use Rattle.sc_mixed.specs.declared.calls.Next.{Next}
use Rattle.sc_mixed.specs.declared.calls.Next.TheVariants.{Steps}

-- an interpreted entry goes on with the machine's state
pub entry_so : (texts : List Text) (key : Key) (c : Calls) (w v : World) (g : Going) (r : Result Going Stop) (now : Shown) → ((h : History) → IsQuiet h → StepsTo (callee_next h key [] (callee_of texts key) c.callers (pass GoesOut w)) r c.callers v) → r ≡ Ok g → ((s : State) (cs : List Caller) (u : World) → Is s g cs u → now ≡ entry_shown s) → EntryInSource texts key c w (Ok (Steps g, now)) v
entry_so texts key c w v g r now steps is shown =
    let to : Is (entry_next texts key c.callers w) g c.callers v = subst (λ (x : Result Going Stop). StepsTo (entry_next texts key c.callers w) x c.callers v) is (steps (alone texts) (is_quiet texts)) in
    (g, refl, state_is (entry_next texts key c.callers w) g c.callers v to, shown (entry_next texts key c.callers w) c.callers v to)

pub entry_ends : (texts : List Text) (key : Key) (c : Calls) (w v : World) (stopped : Stop) (r : Result Going Stop) → ((h : History) → IsQuiet h → StepsTo (callee_next h key [] (callee_of texts key) c.callers (pass GoesOut w)) r c.callers v) → r ≡ Err stopped → EntryInSource texts key c w (Err (Meant stopped)) v
entry_ends texts key c w v stopped r steps is =
    subst (λ (x : Result Going Stop). StepsTo (entry_next texts key c.callers w) x c.callers v) is (steps (alone texts) (is_quiet texts))

entry_goes : (b : Bool) (texts : List Text) (i : Image) (key : Key) (c d : Calls) (born v : World) (first : Next × Shown) → EntryCalled b texts i key c born (Ok first) d v → EntryGoes b texts i key c born first.0 first.1 d v
entry_goes true texts i key c d born v first p = p
entry_goes false texts i key c d born v first p = record { going = p.0.0; goes = p.0.1; state = p.0.2; shown = p.0.3; calls = p.1 }

entry_stops : (b : Bool) (texts : List Text) (i : Image) (key : Key) (c d : Calls) (born v : World) (stopped : Stop) → EntryCalled b texts i key c born (Err (Meant stopped)) d v → (e : Ending) → ending_of stopped v ≡ Some e → entry_next texts key c.callers born ≡ Ends e
entry_stops true texts i key c d born v stopped p = λ e is. absurd (no_room stopped v e (cc) is)
entry_stops false texts i key c d born v stopped p = p.0

entry_crashes : (b : Bool) (texts : List Text) (i : Image) (key : Key) (c d : Calls) (born v : World) (pc : ℕ) (cause : Crash) → EntryCalled b texts i key c born (Err (Crashed pc cause)) d v → ⊥
entry_crashes true texts i key c d born v pc cause p = cc
entry_crashes false texts i key c d born v pc cause p = p.0

born_first : (texts : List Text) (key : Key) (cs : List Caller) (w born : World) → statics_born texts w ≡ Done tt born → first_from texts key cs w ≡ entry_next texts key cs born
born_first texts key cs w born is = ap (λ r. then_goes r (λ _ b. entry_next texts key cs b)) is

pub begins_there : (texts : List Text) (i : Image) (key : Key) (c d : Calls) (w born v : World) (result : Result (Next × Shown) Break) → statics_born texts w ≡ Done tt born → EntryCalled (is_code (callee_of texts key)) texts i key c born result d v → Begins texts i key c w result d v
begins_there texts i key c d w born v (Ok first) is p = (born, is, entry_goes (is_code (callee_of texts key)) texts i key c d born v first p)
begins_there texts i key c d w born v (Err (Meant stopped)) is p =
    λ e ends. born_first texts key c.callers w born is ∙ entry_stops (is_code (callee_of texts key)) texts i key c d born v stopped p e ends
begins_there texts i key c d w born v (Err (Crashed pc cause)) is p = entry_crashes (is_code (callee_of texts key)) texts i key c d born v pc cause p

pub ends_first : (texts : List Text) (i : Image) (key : Key) (c d : Calls) (w v : World) (stopped : Stop) → Stops (statics_born texts w) stopped v → Begins texts i key c w (Err (Meant stopped)) d v
ends_first texts i key c d w v stopped p = λ e is. ap (λ r. then_goes r (λ _ b. entry_next texts key c.callers b)) (p e is)

-- a run from its start on
pub starts_there : (texts : List Text) (i : Image) (key : Key) (stack heap : ℕ) (input : List ℕ) (functions : List Key) (places : List (StaticId × ℕ)) (first : Result (Next × Shown) Break) (none c : Calls) (w v : World) (course : Course)
    → none ≡ no_calls → w ≡ world_first functions places texts key stack heap input → Begins texts i key none w first c v → course ≡ first_course first → Starts texts i key stack heap input (record { world = v; image = i; calls = c; course = course })
starts_there texts i key stack heap input functions places first none c w v course empty new begins is = record {
  functions = functions;
  places = places;
  first = first;
  begins = subst (λ (u : World). Begins texts i key no_calls u first c v) new (subst (λ (d : Calls). Begins texts i key d w first c v) empty begins);
  image = refl;
  course = is;
}
