-- Two histories that are the same from some count of events up to another: each step between these counts is the same.
use Rattle.std.proofs.Common.{◌≡◌, ℕ, ◌+◌, ◌<◌, ◌≤◌, List, [], ◌∷◌, arith, refl, sym, ap, ◌∙◌, subst}
use Rattle.sc_base.specs.declared.key.Key.{Key}
use Rattle.sc_meaning.specs.World.{World, Item, Event, Work, Begin, End, GoesOut, ComesBack, Declares, Happens, Birth, Death, Put, Copy, TakeFree, TakeNew, Give, Stack, Read, Seed, Push, Pop, OpenBlock, CloseBlock, Name, Unname, Enter, Leave, At, Out, effect, pass, passed}
use Rattle.sc_meaning.specs.declared.library.LibFun.{LibFun}
use Rattle.sc_meaning.specs.Values.{Value}
use Rattle.sc_meaning.specs.Outcomes.{Outcome, Done, Over, and_then, world_after}
use Rattle.sc_meaning.specs.Versions.{Text, History, version_at}
use Rattle.sc_meaning.specs.Changes.{happened}
use Rattle.sc_meaning.specs.Functions.{library_call}
use Rattle.sc_meaning.specs.Laws.{Leads}
use Rattle.sc_meaning.proofs.Relation.{Relation, Histories}
use Rattle.sc_meaning.proofs.Steps.{on}
use Rattle.sc_meaning.proofs.Changing.{happened_goes, settled_goes}
use Rattle.sc_meaning.proofs.Growing.{Going, leads_then}
use Rattle.sc_meaning.proofs.FunctionsGo.{library_goes}

-- ---- more and more events pass

effect_grows : (i : Item) (w : World) → w.count ≤ (effect i w).count
effect_grows (Work n) w = omega arith
effect_grows Begin w = omega arith
effect_grows End w = omega arith
effect_grows GoesOut w = omega arith
effect_grows ComesBack w = omega arith
effect_grows (Declares id) w = omega arith
effect_grows (Happens (Enter key home)) w = omega arith
effect_grows (Happens Leave) w = omega arith
effect_grows (Happens (At home line enter)) w = omega arith
effect_grows (Happens (Out byte)) w = omega arith
effect_grows (Birth size kind at) w = omega arith
effect_grows (Death id) w = omega arith
effect_grows (Put id at new) w = omega arith
effect_grows (Copy to at from off n) w = omega arith
effect_grows (TakeFree k) w = omega arith
effect_grows (TakeNew size) w = omega arith
effect_grows (Give k) w = omega arith
effect_grows (Stack n) w = omega arith
effect_grows Read w = omega arith
effect_grows (Seed n) w = omega arith
effect_grows (Push f) w = omega arith
effect_grows Pop w = omega arith
effect_grows (OpenBlock b) w = omega arith
effect_grows CloseBlock w = omega arith
effect_grows (Name id o) w = omega arith
effect_grows (Unname id) w = omega arith

passed_grows : (is : List Item) (w : World) → w.count ≤ (passed is w).count
passed_grows [] w = omega arith
passed_grows (i ∷ is) w = omega (arith, effect_grows i w, passed_grows is (pass i w))

pub count_grows : (w v : World) → Leads w v → w.count ≤ v.count
count_grows w v l = subst (λ u. w.count ≤ u.count) (sym l.1) (passed_grows l.0 w)

-- an event is counted
pub event_counts : (e : Event) (w : World) → (pass (Happens e) w).count ≡ w.count + 1
event_counts (Enter key home) w = refl
event_counts Leave w = refl
event_counts (At home line enter) w = refl
event_counts (Out byte) w = refl

-- ---- the relation

-- what begins with m events and ends with fewer than c is the same
abbrev pub Same : {A : Type 0} → ℕ → ℕ → World → Outcome A → Outcome A → Type 0
Same m c w r s = (m ≤ w.count → (world_after r).count < c → r ≡ s) × Leads w (world_after r) × Leads w (world_after s)

pub bound : {A B : Type 0} (m c : ℕ) (w : World) (r s : Outcome A) (f g : A → World → Outcome B) → (m ≤ w.count → (world_after r).count < c → r ≡ s) → Leads w (world_after r) → ((a : A) (v : World) → Same m c v (f a v) (g a v)) → m ≤ w.count → (world_after (and_then r f)).count < c → and_then r f ≡ and_then s g
bound m c w (Done a v) s f g p l q le lt =
    let less : v.count < c = omega (arith, lt, count_grows v (world_after (f a v)) (q a v).1) in
    (q a v).0 (omega (arith, le, count_grows w v l)) lt ∙ ap (λ o. and_then o g) (p le less)
bound m c w (Over e) s f g p l q le lt = ap (λ o. and_then o g) (p le lt)

abbrev pub Between : ℕ → ℕ → Relation
Between m c = record {
  Rel = λ w r s. Same m c w r s;
  done = λ a w v l. ((λ le lt. refl), l, l);
  over = λ e w l. ((λ le lt. refl), l, l);
  bind = λ w r s f g p q. (bound m c w r s f g p.0 p.1 q, leads_then w r f p.1 (λ a v. (q a v).1), leads_then w s g p.2 (λ a v. (q a v).2));
  earlier = λ w v r s l p. ((λ le lt. p.0 (omega (arith, le, count_grows w v l)) lt), on w v (world_after r) l p.1, on w v (world_after s) l p.2);
}

-- two histories that are the same between the counts
pub record Agree (m c : ℕ) (h k : History) : Type 0 where
  pub events : (e : Event) (w : World) → m ≤ w.count → w.count + 1 < c → happened h e w ≡ happened k e w
  pub texts : (n : ℕ) → m ≤ n → n < c → version_at h n ≡ version_at k n

module _ (m c : ℕ) (h k : History) (same : Agree m c h k) where
  event_leads : (e : Event) (w : World) → Leads w (world_after (happened h e w))
  event_leads e w = happened_goes Going h e w

  -- behind an event there is one more at least
  pub event_grows : (e : Event) (w : World) → w.count + 1 ≤ (world_after (happened h e w)).count
  event_grows e w = subst (λ n. n ≤ (world_after (happened h e w)).count) (event_counts e w) (count_grows (pass (Happens e) w) (world_after (happened h e w)) (settled_goes Going h (pass (Happens e) w)))

  pub event_same : (e : Event) (w : World) → m ≤ w.count → (world_after (happened h e w)).count < c → happened h e w ≡ happened k e w
  event_same e w le lt = same.events e w le (omega (arith, lt, event_grows e w))

  texts_same : {A : Type 0} (w : World) (f g : List Text → Outcome A) → ((t : List Text) → Same m c w (f t) (g t)) → m ≤ w.count → (world_after (f (version_at h w.count))).count < c → f (version_at h w.count) ≡ g (version_at k w.count)
  texts_same w f g q le lt =
      let x : List Text = version_at h w.count in
      let less : w.count < c = omega (arith, lt, count_grows w (world_after (f x)) (q x).1) in
      (q x).0 le lt ∙ ap g (same.texts w.count le less)

  pub between : Histories (Between m c) h k
  between = record {
    happens = λ e w. (event_same e w, happened_goes Going h e w, happened_goes Going k e w);
    versions = λ w f g q. (texts_same w f g q, (q (version_at h w.count)).1, (q (version_at k w.count)).2);
  }

  pub library_same : (f : LibFun) (key : Key) (vs : List Value) (w : World) → m ≤ w.count → (world_after (library_call h f key vs w)).count < c → library_call h f key vs w ≡ library_call k f key vs w
  library_same f key vs w le lt = (library_goes (Between m c) h k between f key vs w).0 le lt
