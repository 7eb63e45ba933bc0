-- A go of a session's run of both forms, through the change that waits for it.
use Rattle.std.proofs.Common.{◌≡◌, ◌⊎◌, inl, inr, ℕ, suc, ◌+◌, ◌≤◌, List, [], ◌∷◌, ◌++◌, append_assoc, arith, refl, sym, ap, ◌∙◌, subst, Option}
use Rattle.std.proofs.lemmas.List.{append-nil}
use Rattle.std.specs.Prelude.{map}
use Rattle.sc_interp.specs.declared.stepped.Shown.{Shown}
use Rattle.sc_interp.specs.declared.stepped.Shown.TheVariants.{Nothing}
use Rattle.sc_interp_access.specs.declared.ended.Ended.TheVariants.{NoRoom}
use Rattle.sc_interp_change_laws.specs.Showing.{IsEvent}
use Rattle.sc_meaning.specs.Versions.{Text}
use Rattle.sc_meaning.specs.World.{World}
use Rattle.sc_mixed.specs.Changing.{Changes}
use Rattle.sc_mixed.specs.Goes.{Goes, Leads, Reaches, leads_lost, leads_on, leads_over, lost_at, reaches_further, reaches_here, rested, rested_in, rests_at, want_from}
use Rattle.sc_mixed.specs.Single as single
use Rattle.sc_mixed.specs.Single.{Settling, StepsOne, passes_none, passes_one, settling_further, settling_here, steps_lost, steps_to}
use Rattle.sc_mixed.specs.Standing.{IsLost, Standing}
use Rattle.sc_mixed.specs.declared.course.Course.{Course as Stand}
use Rattle.sc_mixed.specs.declared.course.Course.TheVariants.{On, Over}
use Rattle.sc_mixed.specs.declared.ended.MixedEnd.{MixedEnd}
use Rattle.sc_mixed.specs.declared.ended.MixedEnd.TheVariants.{Meant}
use Rattle.sc_mixed_means.specs.Runs.{texts_in}
use Rattle.sc_mixed_means.specs.Stages.{Build}
use Rattle.sc_words.specs.declared.stop.StopAt.{StopAt}
use Rattle.sc_words.specs.declared.stop.Walk.TheVariants.{Cont}
use Rattle.sc_world.specs.Wants.{Want}
use Rattle.sc_world.specs.declared.halt.Halt.{Halt}
use Rattle.sc_mixed_goes.specs.Shows.{AtEvent, ClaimsIn, Course, EndsSo, IsMeant, IsRun, IsUnclaimed, Passes, RunsOn, StandsAt, with_build, Way}
use Rattle.sc_mixed_goes.specs.Stretches.{Walks, goes_by, halt_of, showing_at, standing_at, steps_by}
use Rattle.sc_mixed_goes.proofs.Changing.{changes_show}
use Rattle.sc_mixed_goes.proofs.Showing.{walks_show}

-- ---- a go of a run that is over

no_more : (texts : List Text) (turns : ℕ) (m n : Standing) → Leads texts turns m n → (end : MixedEnd) → m.course ≡ Over end → ⊥
no_more texts turns m n (leads_on i x d w v next after now moved p) end is = cc
no_more texts turns m n (leads_over i x d w v next after now broken p) end is = cc
no_more texts turns m n (leads_lost i x d w v next now) end is = cc

stays_over : (texts : List Text) (want : Want) (m : Standing) (took : ℕ) (n : Standing) (end : MixedEnd) → m.course ≡ Over end → Reaches texts want m took n → n ≡ m
stays_over texts want m took n end over reaches_here = refl
stays_over texts want m took n end over (reaches_further before turns l n' reach free p) = absurd (no_more texts turns l n p end (ap (λ (x : Standing). x.course) (stays_over texts want m before l end over reach) ∙ over))

settling_over : (texts : List Text) (want : Want) (m n : Standing) (end : MixedEnd) → m.course ≡ Over end → Settling texts want m n → n ≡ m
settling_over texts want m n end over settling_here = refl
settling_over texts want m n end over (settling_further turns l n' s t p) = absurd (no_more texts turns l n p end (ap (λ (x : Standing). x.course) (settling_over texts want m l end over s) ∙ over))

passes_over : (texts : List Text) (want : Want) (m n : Standing) (end : MixedEnd) → m.course ≡ Over end → single.Passes texts want m n → n ≡ m
passes_over texts want m n end over (passes_none n' s t) = settling_over texts want m n end over s.moves
passes_over texts want m n end over (passes_one turns l o n' s t p z) = absurd (no_more texts turns l o p end (ap (λ (x : Standing). x.course) (settling_over texts want m l end over s.moves) ∙ over))

-- it stays where it is, or no room was left
abbrev Rests : Standing → Standing → Type 0
Rests m n = (n ≡ rested m) ⊎ IsLost n

go_rests : (texts : List Text) (want : Want) (m : Standing) (h : Halt) (n : Standing) (end : MixedEnd) → m.course ≡ Over end → Goes texts want m h n → Rests m n
go_rests texts want m h n end over (rests_at took l reach halts at) = inl (at ∙ ap rested (stays_over texts want m took l end over reach))
go_rests texts want m h n end over (lost_at took l reach halts lost) = inr lost

step_rests : (texts : List Text) (want : Want) (m : Standing) (h : Option Halt) (n : Standing) (end : MixedEnd) → m.course ≡ Over end → StepsOne texts want m h n → Rests m n
step_rests texts want m h n end over (steps_to l passes halts at) = inl (at ∙ ap rested (passes_over texts want m l end over passes))
step_rests texts want m h n end over (steps_lost l x passes halts is lost) = inr lost

over_rests : (texts : List Text) (stops : List StopAt) (m : Standing) (h : Option Halt) (n : Standing) (end : MixedEnd) → m.course ≡ Over end → Walks texts stops m h n → Rests m n
over_rests texts stops m h n end over (goes_by walk turns at is goes) = go_rests texts (want_from stops walk turns m) m at n end over goes
over_rests texts stops m h n end over (steps_by steps) = step_rests texts (want_from stops Cont 0 m) m h n end over steps

-- what is claimed of an end
abbrev Same : Standing → MixedEnd → Standing → Type 0
Same m end n = (n.course ≡ Over end) × (n.world ≡ m.world)

rested_same : (m : Standing) (end : MixedEnd) → m.course ≡ Over end → Same m end (rested m)
rested_same m end over = (ap (λ (x : Stand). (rested_in m.image m.calls m.world x).course) over, ap (λ (x : Stand). (rested_in m.image m.calls m.world x).world) over)

over_same : (texts : List Text) (stops : List StopAt) (m : Standing) (h : Option Halt) (n : Standing) (end : MixedEnd) → m.course ≡ Over end → Walks texts stops m h n → Same m end n ⊎ IsLost n
over_same texts stops m h n end over goes =
    elim (over_rests texts stops m h n end over goes) [
      | inl at ↦ inl (subst (λ (x : Standing). Same m end x) (sym at) (rested_same m end over))
      | inr lost ↦ inr lost
    ]

lost_claims : (k : ℕ) (c : Course) (w : World) → EndsSo k c (Meant NoRoom) w
lost_claims k c w = λ e told. absurd cc

over_claims : (c : Course) (m n : Standing) (end : MixedEnd) → m.course ≡ Over end → (y : Way c) (k : ℕ) → ClaimsIn k c m.course m.world ⊎ IsUnclaimed k c y → Same m end n ⊎ IsLost n → ClaimsIn k c n.course n.world ⊎ IsUnclaimed k c y
over_claims c m n end over y k meant (inl (course, world)) =
    subst (λ (x : World). ClaimsIn k c n.course x ⊎ IsUnclaimed k c y) (sym world) (subst (λ (x : Stand). ClaimsIn k c x m.world ⊎ IsUnclaimed k c y) (over ∙ sym course) meant)
over_claims c m n end over y k meant (inr lost) = inl (subst (λ (x : Stand). ClaimsIn k c x n.world) (sym lost) (lost_claims k c n.world))

over_meant : (c : Course) (m n : Standing) (end : MixedEnd) → m.course ≡ Over end → IsMeant c m → Same m end n ⊎ IsLost n → IsMeant c n
over_meant c m n end over (y, le, meant) so = (y, le, λ look k lt right. over_claims c m n end over y k (meant look k lt right) so)

over_course : (m n : Standing) (end : MixedEnd) → Same m end n ⊎ IsLost n → (e : MixedEnd) × (n.course ≡ Over e)
over_course m n end (inl (course, world)) = (end, course)
over_course m n end (inr lost) = (Meant NoRoom, lost)

-- ---- one change, and a go behind it

no_builds : (bs : List Build) → map texts_in bs ≡ [] → bs ≡ []
no_builds [] e = refl
no_builds (b ∷ bs) e = let some : b.texts ∷ map texts_in bs ≡ [] = e in absurd cc

-- the go behind a change, from the place before it
further : (c : Course) (b : Build) (x : World) (d : Course) (m : Standing) → Passes (with_build b x c) d [] m → Passes c d (b.texts ∷ []) m
further c b x d m p =
    let more : suc c.moves ≤ d.moves = p.more in
    record {
      same = p.same;
      builds = b ∷ p.builds;
      later = p.later ∙ append_assoc c.later (b ∷ []) p.builds;
      texts = ap (λ ts. b.texts ∷ ts) p.texts;
      more = omega (arith, more);
      run = p.run;
      stands = p.stands;
      meant = p.meant;
    }

-- where the change ended the run
over_passes : (c : Course) (b : Build) (x : World) (m n : Standing) (end : MixedEnd) → m.course ≡ Over end → IsMeant (with_build b x c) m → Same m end n ⊎ IsLost n → Passes c (with_build b x c) (b.texts ∷ []) n
over_passes c b x m n end over meant so =
    let e = over_course m n end so in
    let d : Course = with_build b x c in
    let more : c.moves ≤ suc c.moves = omega arith in
    record {
      same = refl;
      builds = b ∷ [];
      later = refl;
      texts = refl;
      more = more;
      run = subst (λ y. RunsOn y d) (sym e.1) tt;
      stands = subst (λ y. StandsAt y d n) (sym e.1) tt;
      meant = over_meant d m n end over meant so;
    }

pub walks_now : (c : Course) (now : Shown) (texts : List Text) (stops : List StopAt) (h : Option Halt) (m n : Standing) → IsRun c → (IsEvent now → now ≡ c.place.now) → c.present.texts ≡ texts → m ≡ showing_at c.present.image c.place now → Walks texts stops m h n
    → (d : Course) × Passes c d [] n × (d.present ≡ c.present) × AtEvent (halt_of h) n.course d
walks_now c now texts stops h m n run same is at walks =
    walks_show c now run same stops h n
    (subst (λ ts. Walks ts stops (showing_at c.present.image c.place now) h n) (sym is) (subst (λ (x : Standing). Walks texts stops x h n) at walks))

module _ (c : Course) (b : Build) (stops : List StopAt) (h : Option Halt) (n : Standing) where
  abbrev pub Behind : Type 0
  Behind = (d : Course) × Passes c d (b.texts ∷ []) n × (d.present ≡ b) × AtEvent (halt_of h) n.course d × (d.later ≡ c.later ++ b ∷ [])

  behind_by : (x : World) (mid : Standing) (s : Stand) → mid.course ≡ s → RunsOn s (with_build b x c) → StandsAt s (with_build b x c) mid → ((end : MixedEnd) → mid.course ≡ Over end → IsMeant (with_build b x c) mid) → Walks b.texts stops mid h n → Behind
  behind_by x mid (On next now) is run stands ends walks =
      let p = walks_now (with_build b x c) Nothing b.texts stops h mid n run (λ event. absurd event) refl stands walks in
      (p.0, further c b x p.0 n p.1, p.2, p.3, p.1.later ∙ ap (λ bs. (c.later ++ b ∷ []) ++ bs) (no_builds p.1.builds p.1.texts) ∙ append-nil (c.later ++ b ∷ []))
  behind_by x mid (Over end) is run stands ends walks =
      let so = over_same b.texts stops mid h n end is walks in
      let e = over_course mid n end so in
      (with_build b x c, over_passes c b x mid n end is (ends end is) so, refl, subst (λ y. AtEvent (halt_of h) y (with_build b x c)) (sym e.1) tt, refl)

  pub walks_behind : (mid : Standing) → IsRun c → IsEvent c.place.now → Changes c.present.texts b.texts (standing_at b.image c.place) mid → Walks b.texts stops mid h n → Behind
  walks_behind mid run event changes walks =
      let r = changes_show c b mid run event changes in
      behind_by r.0 mid mid.course refl r.1 r.2 r.3 walks
