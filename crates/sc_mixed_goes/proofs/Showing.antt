-- What a go of a run leaves is as the meaning has it.
use Rattle.std.proofs.Common.{◌≡◌, ◌⊎◌, inl, inr, ℕ, ◌<◌, ◌≤◌, List, [], ◌∷◌, arith, refl, sym, ap, ◌∙◌, subst, Some, suc}
use Rattle.std.proofs.lemmas.List.{append-nil}
use Rattle.std.specs.Prelude.{Err}
use Rattle.sc_interp.specs.Ends.{end_of}
use Rattle.sc_interp.specs.declared.going.Going.{Going}
use Rattle.sc_interp.specs.declared.going.Going.TheVariants as going
use Rattle.sc_interp_access.specs.Gives as gives
use Rattle.sc_interp_access.specs.declared.ended.Ended.TheVariants.{Exit, NoRoom}
use Rattle.sc_interp_access.specs.declared.stop.Stop.{Stop}
use Rattle.sc_interp_access.specs.declared.stop.Stop.TheVariants as stop
use Rattle.sc_interp_laws.specs.Events.{IsPrefix}
use Rattle.sc_interp_machine.specs.Runs.{Caller}
use Rattle.sc_interp_world.specs.Outputs.{output}
use Rattle.sc_like.specs.Alike.{Like}
use Rattle.sc_like.specs.Counts.{events_shown}
use Rattle.sc_like.specs.Outcomes.{EndsAlike}
use Rattle.sc_like.proofs.Keeping.{passes}
use Rattle.sc_meaning.specs.Behaviour.{first_world, status_of}
use Rattle.sc_meaning.specs.Expressions.{Answer}
use Rattle.sc_meaning.specs.Outcomes as out
use Rattle.sc_meaning.specs.Outcomes.{Done, world_after, world_at}
use Rattle.sc_meaning.specs.World.{World, ComesBack, GoesOut, events, pass}
use Rattle.sc_mixed.specs.Machine.{Moves}
use Rattle.sc_mixed.specs.Standing.{Standing, ended_by, standing_over, status_among, status_at, status_in, stopped_so}
use Rattle.sc_mixed.specs.declared.broken.Break.{Break}
use Rattle.sc_mixed.specs.declared.broken.Break.TheVariants as broken
use Rattle.sc_mixed.specs.declared.calls.Calls.{Calls}
use Rattle.sc_mixed.specs.declared.calls.Lower.{Lower}
use Rattle.sc_mixed.specs.declared.calls.Next.{Next}
use Rattle.sc_mixed.specs.declared.calls.Next.TheVariants.{Steps, Executes, Serves}
use Rattle.sc_mixed.specs.declared.ended.MixedEnd.TheVariants.{Meant}
use Rattle.sc_mixed_means.specs.Runs.{BreaksOff, Enters, Gone, IsPastOf, IsShownIn, Place, entry_gives, history_of}
use Rattle.sc_mixed_means.specs.Stages.{Build, Look, Past}
use Rattle.sc_mixed_means.specs.Waiting.{IsFit}
use Rattle.sc_mixed_means.proofs.Returns.{runs_return}
use Rattle.sc_mixed_means.proofs.Runs.{runs_end, runs_show}
use Rattle.sc_world.specs.declared.halt.Halt.{Halt}
use Rattle.sc_mixed_goes.specs.Shows.{AtEvent, ClaimsIn, CompilerIsRight, Course, EndsSo, IsBegun, IsMeant, IsPastTo, IsRun, IsUnclaimed, Passes, RunsOn, ShowsFirst, StandsAt, WalksShowTheMeaning, Way, meant}
use Rattle.sc_mixed_goes.specs.Stretches.{Went, breaks_off, comes_back, finds_no_room, halt_of, standing_at, stays_on}
use Rattle.sc_mixed_goes.proofs.Meaning.{ends_by, ends_shown, ends_written, meant_by, shown_first, written_first}
use Rattle.sc_mixed_goes.proofs.Stretches.{walks_stretch}

-- ---- the answer with which a run is over

answers_among : (a : Answer) (cs : List Caller) (ls : List Lower) (status : ℕ) → status_among a cs ls ≡ Some status → (cs ≡ []) × (ls ≡ []) × (status ≡ status_of a)
answers_among a [] [] status e = (refl, refl, cc)
answers_among a [] (l ∷ ls) status e = absurd cc
answers_among a (c ∷ cs) ls status e = absurd cc

abbrev Answered : Next → Calls → ℕ → Type 0
Answered next c status = (a : Answer) × (next ≡ Steps (going.Answers a)) × (c.callers ≡ []) × (c.lower ≡ []) × (status ≡ status_of a)

answers_in : (g : Going) (c : Calls) (status : ℕ) → status_in g c ≡ Some status → Answered (Steps g) c status
answers_in (going.Runs doing ss env a) c status e = absurd cc
answers_in (going.Makes t x xs caller) c status e = absurd cc
answers_in (going.Answers a) c status e = let r = answers_among a c.callers c.lower status e in (a, refl, r.0, r.1, r.2)

answers_at : (next : Next) (c : Calls) (status : ℕ) → status_at next c ≡ Some status → Answered next c status
answers_at (Steps g) c status e = answers_in g c status e
answers_at Executes c status e = absurd cc
answers_at (Serves k) c status e = absurd cc

-- ---- ends

same_end : (s : Stop) (w : World) → end_of (stopped_so s) w ≡ gives.ending_of s w
same_end stop.NoRoom w = refl
same_end (stop.Undefined b) w = refl
same_end (stop.Exit status) w = refl
same_end (stop.StackFull key) w = refl
same_end stop.BirthLimit w = refl

some_same : {A : Type 0} (x y : A) → Some x ≡ Some y → x ≡ y
some_same x y e = cc

-- ---- a run, of which the premises hold

module _ (n : ℕ) (c : Course) (begun : IsBegun c) where
  pub enters : IsFit c.build.texts c.build.image c.build.places [] (pass GoesOut c.born) → Enters c.build c.start.entry (first_world c.start) c.born c.first
  enters fit = record { births = begun.births; entry = begun.entry; fit = fit }

  pub gives_meant : (d : Build) (ds : List Build) (p : Past) → IsPastOf c.build c.later d ds p → meant n c p ≡ ends_by (entry_gives n c.start.entry c.born (history_of p))
  gives_meant d ds p so = meant_by n c.start c.born c.build c.later d ds p so begun.births

  begins : (w : World) (p : Past) → IsPastTo c p → IsShownIn w (world_after (entry_gives n c.start.entry c.born (history_of p))) → ShowsFirst n c w
  begins w p so shown =
      let r = entry_gives n c.start.entry c.born (history_of p) in
      let is : meant n c p ≡ ends_by r = gives_meant c.present [] p so in
      record {
        past = p;
        texts = so;
        events = subst (λ es. IsPrefix (events_shown w) es) (sym (ap (λ e. events_shown (world_at e)) is ∙ ends_shown r)) (shown_first w (world_after r) shown);
        bytes = subst (λ bs. IsPrefix (output w.trail) bs) (sym (ap (λ e. output (world_at e).trail) is ∙ ends_written r)) (written_first w (world_after r) shown);
      }

-- the way to the run's place
abbrev pub way_of : (c : Course) → IsRun c → Way c
way_of c run = record { moves = c.moves; place = c.place; present = c.present; later = []; gone = run.gone }

module _ (look : Look) (n : ℕ) (c : Course) (run : IsRun c) (right : CompilerIsRight look n c (way_of c run)) where
  -- at its place
  shows_there : look.deep c.moves < n → ShowsFirst n c c.place.world ⊎ IsUnclaimed n c (way_of c run)
  shows_there lt =
      elim (runs_show look c.build c.later n c.start.entry (first_world c.start) c.born c.first right.texts (enters n c run.begun right.fit) c.moves c.place c.present [] lt run.gone right.memory) [
        | inl y ↦ inl (begins n c run.begun c.place.world y.0 y.1 y.2)
        | inr l ↦ inr l
      ]

  -- where the entry's call came back
  back_alike : (a : Answer) (w u : World) (p : Past) → IsPastTo c p → Like w u → entry_gives n c.start.entry c.born (history_of p) ≡ Done a u → (status : ℕ) → status ≡ status_of a → EndsSo n c (Meant (Exit status)) (pass ComesBack w)
  back_alike a w u p so like is status at = λ e told. (
    p,
    so,
    subst (λ x. EndsAlike Like x (meant n c p)) (some_same (out.Exit status (pass ComesBack w)) e told)
        (pass ComesBack u, passes ComesBack w u like, gives_meant n c run.begun c.present [] p so ∙ ap ends_by is ∙ ap (λ k. out.Exit k (pass ComesBack u)) (sym at)),
  )

  returns_there : (status : ℕ) → look.deep c.moves < n → status_at c.place.next c.place.calls ≡ Some status → EndsSo n c (Meant (Exit status)) (pass ComesBack c.place.world) ⊎ IsUnclaimed n c (way_of c run)
  returns_there status lt at =
      let x = answers_at c.place.next c.place.calls status at in
      elim (runs_return look c.build c.later n c.start.entry (first_world c.start) c.born c.first right.texts (enters n c run.begun right.fit) c.moves c.place c.present [] x.0 lt run.gone right.memory x.1 x.2 x.3) [
        | inl y ↦ inl (back_alike x.0 c.place.world y.2 y.0 y.1 y.3 y.4 status x.4)
        | inr l ↦ inr l
      ]

  -- where a move broke off
  broke_so : (b : Break) (u : World) → BreaksOff c.build c.later n c.start.entry c.born c.present [] b u → EndsSo n c (ended_by b) u
  broke_so (broken.Meant s) u (p, so, ends) = λ e told.
      let f = ends e (sym (same_end s u) ∙ told) in
      (p, so, subst (EndsAlike Like e) (sym (gives_meant n c run.begun c.present [] p so ∙ ap ends_by f.2)) f.1)
  broke_so (broken.Crashed pc cause) u x = absurd x

  breaks_there : (b : Break) (after : Next) (d : Calls) (u : World) → look.deep (suc c.moves) < n → Moves c.present.texts c.present.image c.place.next c.place.calls c.place.world (Err b) after d u → EndsSo n c (ended_by b) u ⊎ IsUnclaimed n c (way_of c run)
  breaks_there b after d u lt m =
      elim (runs_end look c.build c.later n c.start.entry (first_world c.start) c.born c.first right.texts (enters n c run.begun right.fit) c.moves c.place c.present [] b after d u lt run.gone right.memory right.there m) [
        | inl y ↦ inl (broke_so b u y)
        | inr l ↦ inr l
      ]

-- ---- a go

abbrev moved_to : Course → ℕ → Place → Course
moved_to c j q = record c { moves = j; place = q }

run_to : (c : Course) (j : ℕ) (q : Place) → IsRun c → Gone c.first c.build c.later j q c.present [] → IsRun (moved_to c j q)
run_to c j q run gone = record { begun = record { births = run.begun.births; entry = run.begun.entry }; gone = gone }

claims_at : (n : ℕ) (c : Course) (z : Way c) (m s : Standing) → m ≡ s → ClaimsIn n c s.course s.world ⊎ IsUnclaimed n c z → ClaimsIn n c m.course m.world ⊎ IsUnclaimed n c z
claims_at n c z m s e x = subst (λ (y : Standing). ClaimsIn n c y.course y.world ⊎ IsUnclaimed n c z) (sym e) x

no_end : (n : ℕ) (c : Course) (w : World) → EndsSo n c (Meant NoRoom) w
no_end n c w = λ e told. absurd cc

-- a go that changed no text
no_change : (c : Course) (j : ℕ) (q : Place) (m : Standing) → c.moves ≤ j → RunsOn m.course (moved_to c j q) → StandsAt m.course (moved_to c j q) m → IsMeant (moved_to c j q) m → Passes c (moved_to c j q) [] m
no_change c j q m le run stands meant = record {
  same = refl;
  builds = [];
  later = sym (append-nil c.later);
  texts = refl;
  more = le;
  run = run;
  stands = stands;
  meant = meant;
}

abbrev Left : Course → Halt → Standing → Type 0
Left c h m = (d : Course) × Passes c d [] m × (d.present ≡ c.present) × AtEvent h m.course d

passes_so : (c : Course) (h : Halt) (m : Standing) → IsRun c → Went c.first c.build c.later c.present [] c.moves h m → Left c h m
passes_so c h m run (stays_on j q le gone halts at) =
    let d : Course = moved_to c j q in
    let there : IsRun d = run_to c j q run gone in (
      d,
      no_change c j q m le (subst (λ (y : Standing). RunsOn y.course d) (sym at) there) (subst (λ (y : Standing). StandsAt y.course d y) (sym at) refl)
          (way_of d there, omega arith, λ look n lt right. claims_at n d (way_of d there) m (standing_at c.present.image q) at (shows_there look n d there right (let r = look.grows j in omega (arith, lt, r)))),
      refl,
      subst (λ (y : Standing). AtEvent h y.course d) (sym at) halts,
    )
passes_so c h m run (comes_back j q status le gone is at) =
    let d : Course = moved_to c j q in
    let there : IsRun d = run_to c j q run gone in (
      d,
      no_change c j q m le (subst (λ (y : Standing). RunsOn y.course d) (sym at) tt) (subst (λ (y : Standing). StandsAt y.course d y) (sym at) tt)
          (way_of d there, omega arith, λ look n lt right. claims_at n d (way_of d there) m (standing_over c.present.image q.calls (pass ComesBack q.world) (Meant (Exit status))) at (returns_there look n d there right status (let r = look.grows j in omega (arith, lt, r)) is)),
      refl,
      subst (λ (y : Standing). AtEvent h y.course d) (sym at) tt,
    )
passes_so c h m run (breaks_off j q b after e u le gone p at) =
    let d : Course = moved_to c j q in
    let there : IsRun d = run_to c j q run gone in (
      d,
      no_change c j q m le (subst (λ (y : Standing). RunsOn y.course d) (sym at) tt) (subst (λ (y : Standing). StandsAt y.course d y) (sym at) tt)
          (way_of d there, omega arith, λ look n lt right. claims_at n d (way_of d there) m (standing_over c.present.image e u (ended_by b)) at (breaks_there look n d there right b after e u lt p)),
      refl,
      subst (λ (y : Standing). AtEvent h y.course d) (sym at) tt,
    )
passes_so c h m run (finds_no_room lost) =
    let d : Course = moved_to c c.moves c.place in (
      d,
      no_change c c.moves c.place m (omega arith) (subst (λ x. RunsOn x d) (sym lost) tt) (subst (λ x. StandsAt x d m) (sym lost) tt) (way_of d (run_to c c.moves c.place run run.gone), omega arith, λ look n lt right. inl (subst (λ x. ClaimsIn n d x m.world) (sym lost) (no_end n d m.world))),
      refl,
      subst (λ x. AtEvent h x d) (sym lost) tt,
    )

pub walks_show : WalksShowTheMeaning
walks_show c now run same stops h m walks =
    passes_so c (halt_of h) m run (walks_stretch c.first c.build c.later c.present [] c.moves c.place now run.gone same stops h m walks)
