-- Worlds that are alike are a relation that every part keeps; events and look-ups are the same where all versions have come, or where as many
-- events passed.
use Rattle.std.proofs.Common.{◌≡◌, ℕ, ◌+◌, ◌≤◌, List, [], arith, refl, sym, ap, ◌∙◌, subst}
use Rattle.sc_meaning.specs.World.{World, Item, Event, Work, Begin, End, GoesOut, ComesBack, Declares, Happens, Birth, Death, Put, Copy, TakeFree, TakeNew, Give, Stack, Read, Seed, Push, Pop, OpenBlock, CloseBlock, Name, Unname, Enter, Leave, At, Out, effect, pass}
use Rattle.sc_meaning.specs.Outcomes.{Outcome, Done, Over, and_then, went}
use Rattle.sc_meaning.specs.Versions.{Text, History, version_at}
use Rattle.sc_meaning.specs.Changes.{settled_from, settled, happened}
use Rattle.sc_like.specs.Alike.{formless}
use Rattle.sc_meaning.specs.Laws.{HaveCome}
use Rattle.sc_meaning.proofs.Histories.{changes_nothing_behind, have_later, present_stays}
use Rattle.sc_meaning.proofs.Trails.{effect_counts}
use Rattle.sc_like.specs.Behind.{Settled, LikeSoFar}
use Rattle.sc_like.specs.Outcomes.{AreAlike}
use Rattle.sc_like.proofs.Keeping.{passes, works}
use Rattle.sc_like.proofs.Pairs.{Pairs, Histories}
use Rattle.sc_like.proofs.Whole.{from_goes}

pub then_alike : {A B : Type 0} (L : World → World → Type 0) (r s : Outcome A) (f g : A → World → Outcome B) → AreAlike L r s → ((a : A) (w w' : World) → L w w' → AreAlike L (f a w) (g a w')) → AreAlike L (and_then r f) (and_then s g)
then_alike L (Done a w) s f g p q = subst (λ o. AreAlike L (f a w) (and_then o g)) (sym p.2) (q a w p.0 p.1)
then_alike L (Over e) s f g p q = (p.0, p.1, ap (λ o. and_then o g) p.2)

-- a relation of worlds that what happens keeps, as one of outcomes
abbrev pub paired : (L : World → World → Type 0) → ((w w' : World) → L w w' → formless w ≡ formless w') → ((i : Item) (w w' : World) → L w w' → L (pass i w) (pass i w')) → ((m n : ℕ) (w w' : World) → L w w' → L (pass (Work m) w) (pass (Work n) w')) → Pairs
paired L s p q = record {
  L = L;
  Rel = λ r s. AreAlike L r s;
  same = s;
  passes = p;
  works = q;
  done = λ a w w' l. (w', l, refl);
  over = λ e f x. (f, x, refl);
  bind = λ r s f g x y. then_alike L r s f g x y;
}

-- ---- counts

count_same : (i : Item) (w w' : World) → w.count ≡ w'.count → (effect i w).count ≡ (effect i w').count
count_same (Work n) w w' e = e
count_same Begin w w' e = e
count_same End w w' e = e
count_same GoesOut w w' e = e
count_same ComesBack w w' e = e
count_same (Declares id) w w' e = e
count_same (Happens (Enter key home)) w w' e = ap (λ n. n + 1) e
count_same (Happens Leave) w w' e = ap (λ n. n + 1) e
count_same (Happens (At home line enter)) w w' e = ap (λ n. n + 1) e
count_same (Happens (Out byte)) w w' e = ap (λ n. n + 1) e
count_same (Birth size kind at) w w' e = e
count_same (Death id) w w' e = e
count_same (Put id at new) w w' e = e
count_same (Copy to at from off n) w w' e = e
count_same (TakeFree k) w w' e = e
count_same (TakeNew size) w w' e = e
count_same (Give k) w w' e = e
count_same (Stack n) w w' e = e
count_same Read w w' e = e
count_same (Seed n) w w' e = e
count_same (Push f) w w' e = e
count_same Pop w w' e = e
count_same (OpenBlock b) w w' e = e
count_same CloseBlock w w' e = e
count_same (Name id o) w w' e = e
count_same (Unname id) w w' e = e

grows : (i : Item) (w : World) → w.count ≤ (pass i w).count
grows i w = omega (arith, effect_counts i w)

event_counts : (e : Event) (w : World) → (pass (Happens e) w).count ≡ w.count + 1
event_counts e w = effect_counts (Happens e) w

-- ---- as many events passed: under any history

pub so_far_passes : (i : Item) (w w' : World) → LikeSoFar w w' → LikeSoFar (pass i w) (pass i w')
so_far_passes i w w' l = record { alike = passes i w w' l.alike; count = count_same i w w' l.count }

pub so_far_works : (m n : ℕ) (w w' : World) → LikeSoFar w w' → LikeSoFar (pass (Work m) w) (pass (Work n) w')
so_far_works m n w w' l = record { alike = works m n w w' l.alike; count = l.count }

abbrev pub so_far : Pairs
so_far = paired LikeSoFar (λ w w' l. l.alike.same) so_far_passes so_far_works

pub settled_so_far : (h : History) (w w' : World) → LikeSoFar w w' → so_far.Rel (settled h w) (settled h w')
settled_so_far h w w' l = subst (λ n. so_far.Rel (settled h w) (settled_from n [] h w')) l.count (from_goes so_far w.count [] h w w' l)

versions_so_far : {A : Type 0} (h : History) (w w' : World) (f g : List Text → Outcome A) → LikeSoFar w w' → ((t : List Text) → so_far.Rel (f t) (g t)) → so_far.Rel (f (version_at h w.count)) (g (version_at h w'.count))
versions_so_far h w w' f g l q = subst (λ n. so_far.Rel (f (version_at h w.count)) (g (version_at h n))) l.count (q (version_at h w.count))

pub one_history : (h : History) → Histories so_far h h
one_history h = record {
  happens = λ e w w' l. settled_so_far h (pass (Happens e) w) (pass (Happens e) w') (so_far_passes (Happens e) w w' l);
  versions = λ w w' f g l q. versions_so_far h w w' f g l q;
}

-- ---- all versions have come

pub event_behind : (h : History) (e : Event) (w : World) → HaveCome w.count h → happened h e w ≡ went (pass (Happens e) w)
event_behind h e w p = changes_nothing_behind w.count h (pass (Happens e) w) (omega (arith, event_counts e w)) p

module _ (h k : History) where
  pub behind_passes : (i : Item) (w w' : World) → Settled h k w w' → Settled h k (pass i w) (pass i w')
  behind_passes i w w' l = record {
    alike = passes i w w' l.alike;
    first = have_later w.count (pass i w).count h (grows i w) l.first;
    second = have_later w'.count (pass i w').count k (grows i w') l.second;
    texts = present_stays w.count (pass i w).count h (grows i w) l.first ∙ l.texts ∙ sym (present_stays w'.count (pass i w').count k (grows i w') l.second);
  }

  pub behind_works : (m n : ℕ) (w w' : World) → Settled h k w w' → Settled h k (pass (Work m) w) (pass (Work n) w')
  behind_works m n w w' l = record { alike = works m n w w' l.alike; first = l.first; second = l.second; texts = l.texts }

  abbrev pub behind : Pairs
  behind = paired (Settled h k) (λ w w' l. l.alike.same) behind_passes behind_works

  pub happens_behind : (e : Event) (w w' : World) → Settled h k w w' → behind.Rel (happened h e w) (happened k e w')
  happens_behind e w w' l =
      subst (λ r. behind.Rel (happened h e w) r) (sym (event_behind k e w' l.second)) (subst (λ r. behind.Rel r (went (pass (Happens e) w'))) (sym (event_behind h e w l.first)) (pass (Happens e) w', behind_passes (Happens e) w w' l, refl))

  versions_behind : {A : Type 0} (w w' : World) (f g : List Text → Outcome A) → Settled h k w w' → ((t : List Text) → behind.Rel (f t) (g t)) → behind.Rel (f (version_at h w.count)) (g (version_at k w'.count))
  versions_behind w w' f g l q = subst (λ t. behind.Rel (f (version_at h w.count)) (g t)) l.texts (q (version_at h w.count))

  pub two_histories : Histories behind h k
  two_histories = record { happens = happens_behind; versions = λ w w' f g l q. versions_behind w w' f g l q }
