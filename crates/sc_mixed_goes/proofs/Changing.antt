-- A change of the texts at a stop is one more version of the run's history.
use Rattle.std.proofs.Common.{◌≡◌, ◌⊎◌, inl, inr, ℕ, ◌+◌, ◌<◌, List, [], ◌∷◌, ◌++◌, arith, refl, sym, ap, ◌∙◌, subst, Some, suc}
use Rattle.sc_interp.specs.Ends.{end_of}
use Rattle.sc_interp.specs.declared.stepped.Shown.{Shown}
use Rattle.sc_interp.specs.declared.stepped.Shown.TheVariants.{Nothing}
use Rattle.sc_interp_access.specs.declared.ended.Ended.{Ended}
use Rattle.sc_interp_change_laws.specs.Showing.{IsEvent}
use Rattle.sc_like.specs.Alike.{Like}
use Rattle.sc_like.specs.Outcomes.{EndsAlike}
use Rattle.sc_meaning.specs.Behaviour.{first_world}
use Rattle.sc_meaning.specs.Changes.{changed}
use Rattle.sc_meaning.specs.Outcomes.{Done, Ending, Outcome, Over as Ends}
use Rattle.sc_meaning.specs.World.{World}
use Rattle.sc_mixed.specs.Changing.{ChangesTo, IsPlaced}
use Rattle.sc_mixed.specs.Standing.{Standing}
use Rattle.sc_mixed.specs.declared.calls.Next.{Next}
use Rattle.sc_mixed.specs.declared.course.Course.{Course as Stand}
use Rattle.sc_mixed.specs.declared.course.Course.TheVariants.{On, Over}
use Rattle.sc_mixed.specs.declared.ended.MixedEnd.{MixedEnd}
use Rattle.sc_mixed.specs.declared.ended.MixedEnd.TheVariants.{Meant}
use Rattle.sc_mixed_means.specs.Runs.{Gone, Place, gone_changed, gone_moved, gone_none, in_world}
use Rattle.sc_mixed_means.specs.Stages.{Build, Look}
use Rattle.sc_mixed_means.proofs.Runs.{changes_over}
use Rattle.sc_mixed_goes.specs.Shows.{ChangesShowTheMeaning, ClaimsIn, CompilerIsRight, Course, EndsSo, IsBegun, IsMeant, IsRun, IsUnclaimed, RunsOn, StandsAt, Way, meant, with_build}
use Rattle.sc_mixed_goes.specs.Stretches.{standing_at}
use Rattle.sc_mixed_goes.proofs.Meaning.{ends_by}
use Rattle.sc_mixed_goes.proofs.Showing.{enters, gives_meant}

-- a run of builds of which more are to come
pub gone_more : (first : Place) (b : Build) (bs : List Build) (k : ℕ) (p : Place) (c : Build) (cs ds : List Build) → Gone first b bs k p c cs → Gone first b (bs ++ ds) k p c (cs ++ ds)
gone_more first b bs _ _ _ _ ds gone_none = gone_none
gone_more first b bs _ _ _ _ ds (gone_moved k p q c cs moved g m e) = gone_moved k p q c (cs ++ ds) moved (gone_more first b bs k p c cs ds g) m e
gone_more first b bs _ _ _ _ ds (gone_changed k p c d cs placed x g event is goes) = gone_changed k p c d (cs ++ ds) placed x (gone_more first b bs k p c (d ∷ cs) ds g) event is goes

not_over : (course : Stand) (next : Next) (now : Shown) (end : MixedEnd) → course ≡ On next now → course ≡ Over end → ⊥
not_over course next now end on over = cc

module _ (c : Course) (new : Build) (run : IsRun c) (event : IsEvent c.place.now) where
  begun_with : (x : World) → IsBegun (with_build new x c)
  begun_with x = record { births = run.begun.births; entry = run.begun.entry }

  abbrev Stands : World → Standing → Type 0
  Stands x m = RunsOn m.course (with_build new x c) × StandsAt m.course (with_build new x c) m × ((end : MixedEnd) → m.course ≡ Over end → IsMeant (with_build new x c) m)

  goes_on : (w x : World) (m : Standing) → IsPlaced c.place.world w → changed c.present.texts new.texts w ≡ Done tt x → m ≡ standing_at new.image (in_world x c.place) → Stands x m
  goes_on w x m placed is at =
      let d : Course = with_build new x c in
      let there : IsRun d = record { begun = begun_with x; gone = gone_changed c.moves c.place c.present new [] w x (gone_more c.first c.build c.later c.moves c.place c.present [] (new ∷ []) run.gone) event placed is } in (
        subst (λ (y : Standing). RunsOn y.course d) (sym at) there,
        subst (λ (y : Standing). StandsAt y.course d y) (sym at) refl,
        λ end over. absurd (not_over m.course c.place.next Nothing end (ap (λ (y : Standing). y.course) at) over),
      )

  -- the way to the stop, behind which these texts come
  abbrev before : (x : World) → Way (with_build new x c)
  before x = record { moves = c.moves; place = c.place; present = c.present; later = new ∷ []; gone = gone_more c.first c.build c.later c.moves c.place c.present [] (new ∷ []) run.gone }

  ended_so : (look : Look) (n : ℕ) (w x u : World) (ended : Ended) (e : Ending) → look.deep c.moves < n → CompilerIsRight look n (with_build new x c) (before x) → IsPlaced c.place.world w → changed c.present.texts new.texts w ≡ Ends e → end_of ended u ≡ Some e → EndsSo n (with_build new x c) (Meant ended) u ⊎ IsUnclaimed n (with_build new x c) (before x)
  ended_so look n w x u ended e lt right placed is told =
      let d : Course = with_build new x c in
      elim (changes_over look d.build d.later n d.start.entry (first_world d.start) d.born d.first right.texts (enters n d (begun_with x) right.fit) c.moves c.place c.present new [] w e lt (gone_more c.first c.build c.later c.moves c.place c.present [] (new ∷ []) run.gone) right.memory event placed is) [
        | inl y ↦ inl (λ f said. let same : f ≡ e = cc in (y.0, y.1, subst (λ (z : Ending). EndsAlike Like z (meant n d y.0)) (sym same) (subst (EndsAlike Like e) (sym (gives_meant n d (begun_with x) new [] y.0 y.1 ∙ ap ends_by y.4)) y.3)))
        | inr l ↦ inr l
      ]

  ends_there : (w : World) (m : Standing) (ended : Ended) (e : Ending) → IsPlaced c.place.world w → changed c.present.texts new.texts w ≡ Ends e → m.course ≡ Over (Meant ended) → end_of ended m.world ≡ Some e → Stands m.world m
  ends_there w m ended e placed is over told =
      let d : Course = with_build new m.world c in (
        subst (λ y. RunsOn y d) (sym over) tt,
        subst (λ y. StandsAt y d m) (sym over) tt,
        λ end at. (before m.world, omega arith, λ look n lt right. subst (λ y. ClaimsIn n d y m.world ⊎ IsUnclaimed n d (before m.world)) (sym over) (ended_so look n w m.world m.world ended e (let r = look.grows c.moves in let s = look.grows (suc c.moves) in omega (arith, lt, r, s)) right placed is told)),
      )

  change_by : (w : World) (m : Standing) (r : Outcome (Unit {0})) → changed c.present.texts new.texts w ≡ r → IsPlaced c.place.world w → ChangesTo r (standing_at new.image c.place) m → (x : World) × Stands x m
  change_by w m (Done t x) is placed to = (x, goes_on w x m placed is to)
  change_by w m (Ends e) is placed (ended, at, told) = (m.world, ends_there w m ended e placed is (ap (λ (y : Standing). y.course) at) told)

pub changes_show : ChangesShowTheMeaning
changes_show c new m run event (w, placed, to) =
    let r = change_by c new run event w m (changed c.present.texts new.texts w) refl placed to in
    (r.0, r.1.0, r.1.1, r.1.2)
