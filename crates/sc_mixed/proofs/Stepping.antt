-- A step of interpreted calls, as a move.
use Rattle.std.proofs.Common.{◌≡◌, ◌+◌, ◌-◌, ℕ, List, Result, Ok, Err, Option, Some, None, refl, ap, sym, subst, ◌∙◌}
use Rattle.std.specs.Prelude.{IfOk}
use Rattle.sc_interp.specs.Shows.{StepsShowing, shown}
use Rattle.sc_interp.specs.Steady.{advance, alone}
use Rattle.sc_interp.specs.Steps.{Is}
use Rattle.sc_interp.specs.declared.going.Going.{Going}
use Rattle.sc_interp.specs.declared.stepped.Shown.{Shown}
use Rattle.sc_interp.proofs.Unchanged.{quiet as is_quiet}
use Rattle.sc_interp_access.specs.declared.stop.Stop.{Stop}
use Rattle.sc_interp_machine.specs.Runs.{Caller, State}
use Rattle.sc_lib.specs.Quiet.{IsQuiet}
use Rattle.sc_meaning.specs.Versions.{History, Text}
use Rattle.sc_meaning.specs.World.{World}
use Rattle.sc_world.specs.Costs.{cost}
use Rattle.sc_world.specs.Standing.{state_of}
use Rattle.sc_world.specs.Turns.{IsBefore}
use Rattle.sc_world.specs.declared.cost.Before.{Before}
use Rattle.sc_world.proofs.Courses.{is_state, state_is}
use Rattle.sc_mixed.specs.Machine.{StepsFrom}
use Rattle.sc_mixed.specs.declared.broken.Break.TheVariants.{Meant}
use Rattle.sc_mixed.specs.declared.calls.Calls.{Calls}
use Rattle.sc_mixed.specs.declared.calls.Moved.{Moved}
use Rattle.sc_mixed.specs.declared.calls.Next.TheVariants.{Steps}

abbrev with_callers : List Caller → Calls → Calls
with_callers cs c = record { callers = cs; lower = c.lower; given = c.given; regs = c.regs }

module _ (texts : List Text) (g : Going) (c : Calls) (w : World) (r : Result Shown Stop) (next : Going) (cs : List Caller) (v : World) (steps : (h : History) → IsQuiet h → (s : State) → Is s g c.callers w → StepsShowing (advance h texts s) (shown h texts s) r next cs v) where
  there : StepsShowing (advance (alone texts) texts (state_of g c.callers w)) (shown (alone texts) texts (state_of g c.callers w)) r next cs v
  there = steps (alone texts) (is_quiet texts) (state_of g c.callers w) (is_state g c.callers w)

  pub step_goes : {E : Type 0} (now : Shown) (before : Before) (made : Result Moved E) (moved : Moved) → r ≡ Ok now → made ≡ Ok moved → IsBefore before (state_of g c.callers w) → ((s t : State) (cs : List Caller) → IsBefore before s → t ≡ state_of next cs v → IfOk made (λ m. (m.shown ≡ now) × (m.turns ≡ cost s t))) → StepsFrom texts (state_of g c.callers w) c (Ok moved) (Steps next) (with_callers cs c) v
  step_goes {E} now before made moved is so at costs =
      let s : State = state_of g c.callers w in
      let t : State = advance (alone texts) texts s in
      let p : StepsShowing t (shown (alone texts) texts s) (Ok now) next cs v = subst (λ (x : Result Shown Stop). StepsShowing t (shown (alone texts) texts s) x next cs v) is there in
      let to : t ≡ state_of next cs v = state_is t next cs v p.0 in
      let q : (moved.shown ≡ now) × (moved.turns ≡ cost s t) = subst (λ (x : Result Moved E). IfOk x (λ m. (m.shown ≡ now) × (m.turns ≡ cost s t))) so (costs s t cs at to) in
      record { going = next; goes = refl; state = to; below = refl; shown = q.0 ∙ p.1; turns = q.1 }

  pub step_ends : (stopped : Stop) → r ≡ Err stopped → StepsFrom texts (state_of g c.callers w) c (Err (Meant stopped)) (Steps next) (with_callers cs c) v
  step_ends stopped is =
      subst (λ (x : Result Shown Stop). StepsShowing (advance (alone texts) texts (state_of g c.callers w)) (shown (alone texts) texts (state_of g c.callers w)) x next cs v) is there
