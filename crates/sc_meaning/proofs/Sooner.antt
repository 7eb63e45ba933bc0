-- What has passed depends on no version that comes later.
use Rattle.std.proofs.Common.{◌≡◌, ◌⊎◌, inl, inr, ℕ, ◌+◌, ◌<◌, ◌≤◌, ◌==◌, nat_lt, nat_le, Bool, true, false, if◌then◌else◌, List, [], ◌∷◌, length, take, refl, sym, ap, ◌∙◌, subst, arith}
use Rattle.std.proofs.lemmas.Bool.{cases_lt}
use Rattle.std.proofs.lemmas.List.{take-append-le}
use Rattle.sc_base.specs.declared.key.Key.{Key}
use Rattle.sc_meaning.specs.World.{World, Event, Happens, GoesOut, ComesBack, pass, events}
use Rattle.sc_meaning.specs.Outcomes.{Outcome, Done, Over, and_then, world_after, went}
use Rattle.sc_meaning.specs.Versions.{Text, History, latest, version_at}
use Rattle.sc_meaning.specs.Changes.{changed_if, settled_from, settled, happened}
use Rattle.sc_meaning.specs.Expressions.{Answer}
use Rattle.sc_meaning.specs.Calls.{call}
use Rattle.sc_meaning.specs.Behaviour.{Start, first_world, entry_called, started, events_upto}
use Rattle.sc_meaning.specs.Laws.{Leads, upto, with_history}
use Rattle.sc_meaning.proofs.Relation.{Relation, Histories}
use Rattle.sc_meaning.proofs.Steps.{here, on, passes, after_one}
use Rattle.sc_meaning.proofs.Changing.{settled_goes}
use Rattle.sc_meaning.proofs.Growing.{Going, leads_then, calls_go}
use Rattle.sc_meaning.proofs.Deeper.{ending_world}
use Rattle.sc_meaning.proofs.Trails.{IsCounted, leads_count, leads_events}

-- both have passed one world, by which more than c events had passed
abbrev pub Split : {A : Type 0} → ℕ → World → Outcome A → Outcome A → Type 0
Split c w r s = (v : World) × Leads w v × (c < v.count) × Leads v (world_after r) × Leads v (world_after s)

abbrev pub Alike : {A : Type 0} → ℕ → World → Outcome A → Outcome A → Type 0
Alike c w r s = (r ≡ s) ⊎ Split c w r s

equal_then : {A B : Type 0} (c : ℕ) (w : World) (r : Outcome A) (f g : A → World → Outcome B) → Leads w (world_after r) → ((a : A) (v : World) → Alike c v (f a v) (g a v)) → Alike c w (and_then r f) (and_then r g)
equal_then c w (Done a v) f g l q = elim (q a v) [ inl e ↦ inl e | inr s ↦ inr (s.0, on w v s.0 l s.1, s.2, s.3, s.4) ]
equal_then c w (Over e) f g l q = inl refl

pub alike_then : {A B : Type 0} (c : ℕ) (w : World) (r s : Outcome A) (f g : A → World → Outcome B) → Alike c w r s → Leads w (world_after r) → ((a : A) (v : World) → Alike c v (f a v) (g a v)) → ((a : A) (v : World) → Leads v (world_after (f a v))) → ((a : A) (v : World) → Leads v (world_after (g a v))) → Alike c w (and_then r f) (and_then s g)
alike_then c w r s f g x l q a b =
    elim x [
      | inl e ↦ subst (λ o. Alike c w (and_then r f) (and_then o g)) e (equal_then c w r f g l q)
      | inr y ↦ inr (y.0, y.1, y.2, leads_then y.0 r f y.3 a, leads_then y.0 s g y.4 b)
    ]

pub alike_earlier : {A : Type 0} (c : ℕ) (w v : World) (r s : Outcome A) → Leads w v → Alike c v r s → Alike c w r s
alike_earlier c w v r s l x = elim x [ inl e ↦ inl e | inr y ↦ inr (y.0, on w v y.0 l y.1, y.2, y.3, y.4) ]

abbrev pub Sharing : ℕ → Relation
Sharing c = record {
  Rel = λ w r s. Alike c w r s × Leads w (world_after r) × Leads w (world_after s);
  done = λ a w v l. (inl refl, l, l);
  over = λ e w l. (inl refl, l, l);
  bind = λ w r s f g p q. (alike_then c w r s f g p.0 p.1 (λ a v. (q a v).0) (λ a v. (q a v).1) (λ a v. (q a v).2), leads_then w r f p.1 (λ a v. (q a v).1), leads_then w s g p.2 (λ a v. (q a v).2));
  earlier = λ w v r s l p. (alike_earlier c w v r s l p.0, on w v (world_after r) l p.1, on w v (world_after s) l p.2);
}

-- look-ups and changes at n events, by the versions that come no later than c events, n at most c
not_later : (a n c : ℕ) → n ≤ c → nat_le a c ≡ false → nat_le a n ≡ false
not_later a n c h e = grind (arith)

is_later : (a n c : ℕ) → n ≤ c → nat_le a c ≡ false → nat_lt n a ≡ true
is_later a n c h e = grind (arith)

if-true : {A : Type 0} (b : Bool) (x y : A) → b ≡ true → (if b then x else y) ≡ x
if-true true x y e = refl
if-true false x y e = absurd (cc)

if-false : {A : Type 0} (b : Bool) (x y : A) → b ≡ false → (if b then x else y) ≡ y
if-false true x y e = absurd (cc)
if-false false x y e = refl

latest_same : (c n : ℕ) → n ≤ c → (texts : List Text) (h : History) → latest texts (upto c h) n ≡ latest texts h n
latest_same c n le texts [] = refl
latest_same c n le texts (v ∷ vs) =
    elim (nat_le v.count c) as (λ b. nat_le v.count c ≡ b → latest texts (if b then v ∷ upto c vs else []) n ≡ latest texts (v ∷ vs) n) [
      | true ↦ λ e. ap (λ x. if nat_le v.count n then x else texts) (latest_same c n le v.texts vs)
      | false ↦ λ e. sym (if-false (nat_le v.count n) (latest v.texts vs n) texts (not_later v.count n c le e))
    ] refl

then_same : {A B : Type 0} (r : Outcome A) (f g : A → World → Outcome B) → ((a : A) (w : World) → f a w ≡ g a w) → and_then r f ≡ and_then r g
then_same (Done a w) f g q = q a w
then_same (Over e) f g q = refl

from_same : (c n : ℕ) → n ≤ c → (old : List Text) (h : History) (w : World) → settled_from n old (upto c h) w ≡ settled_from n old h w
from_same c n le old [] w = refl
from_same c n le old (v ∷ vs) w =
    elim (nat_le v.count c) as (λ b. nat_le v.count c ≡ b → settled_from n old (if b then v ∷ upto c vs else []) w ≡ settled_from n old (v ∷ vs) w) [
      | true ↦ λ e. ap (λ x. if nat_lt n v.count then went w else x) (then_same (changed_if (v.count == n) old v.texts w) (λ _ u. settled_from n v.texts (upto c vs) u) (λ _ u. settled_from n v.texts vs u) (λ _ u. from_same c n le v.texts vs u))
      | false ↦ λ e. sym (if-true (nat_lt n v.count) (went w) (and_then (changed_if (v.count == n) old v.texts w) (λ _ u. settled_from n v.texts vs u)) (is_later v.count n c le e))
    ] refl

settled_same : (c : ℕ) (h k : History) (w : World) → upto c h ≡ upto c k → w.count ≤ c → settled h w ≡ settled k w
settled_same c h k w e le = sym (from_same c w.count le [] h w) ∙ ap (λ x. settled_from w.count [] x w) e ∙ from_same c w.count le [] k w

version_same : (c : ℕ) (h k : History) (n : ℕ) → upto c h ≡ upto c k → n ≤ c → version_at h n ≡ version_at k n
version_same c h k n e le = sym (latest_same c n le [] h) ∙ ap (λ x. latest [] x n) e ∙ latest_same c n le [] k

module _ (c : ℕ) (h k : History) (same : upto c h ≡ upto c k) where
  h-settled : (w : World) → Leads w (world_after (settled h w))
  h-settled w = settled_goes Going h w

  k-settled : (w : World) → Leads w (world_after (settled k w))
  k-settled w = settled_goes Going k w

  settled_alike : (w : World) → Alike c w (settled h w) (settled k w)
  settled_alike w =
      elim (cases_lt c w.count) [
        | inl later ↦ inr (w, here w, later, h-settled w, k-settled w)
        | inr now ↦ inl (settled_same c h k w same now)
      ]

  pub settled_shares : (w : World) → (Sharing c).Rel w (settled h w) (settled k w)
  settled_shares w = (settled_alike w, h-settled w, k-settled w)

  happened_shares : (e : Event) (w : World) → (Sharing c).Rel w (happened h e w) (happened k e w)
  happened_shares e w =
      let v : World = pass (Happens e) w in
      after_one (Sharing c) (Happens e) w (settled h v) (settled k v) (settled_shares v)

  versions_share : {A : Type 0} (w : World) (f g : List Text → Outcome A) → ((t : List Text) → (Sharing c).Rel w (f t) (g t)) → (Sharing c).Rel w (f (version_at h w.count)) (g (version_at k w.count))
  versions_share w f g q =
      let x : List Text = version_at h w.count in
      let y : List Text = version_at k w.count in
      elim (cases_lt c w.count) [
        | inl later ↦ (inr (w, here w, later, (q x).1, (q y).2), (q x).1, (q y).2)
        | inr now ↦ subst (λ z. (Sharing c).Rel w (f x) (g z)) (version_same c h k w.count same now) (q x)
      ]

  pub sharing : Histories (Sharing c) h k
  sharing = record { happens = happened_shares; versions = versions_share }

  entry_shares : (n : ℕ) (key : Key) (w : World) → (Sharing c).Rel w (entry_called n h key w) (entry_called n k key w)
  entry_shares n key w =
      let v : World = pass GoesOut w in
      (Sharing c).bind w (call n h key [] v) (call n k key [] v) _ _ (after_one (Sharing c) GoesOut w (call n h key [] v) (call n k key [] v) (calls_go (Sharing c) h k sharing n key [] v)) (λ a u. passes (Sharing c) a ComesBack u)

-- the events of a run up to the first c + 1
started_shares : (c n : ℕ) (s : Start) (k : History) → upto c s.history ≡ upto c k → (Sharing c).Rel (first_world s) (started n s) (started n (with_history s k))
started_shares c n s k same =
    let w : World = first_world s in
    (Sharing c).bind w (settled s.history w) (settled k w) _ _ (settled_shares c s.history k same w) (λ x u. entry_shares c s.history k same n s.entry u)

early : (c : ℕ) (w v u : World) → IsCounted w → Leads w v → c < v.count → Leads v u → take (c + 1) (events u.trail) ≡ take (c + 1) (events v.trail)
early c w v u counted l less m =
    let n : v.count ≡ length (events v.trail) = leads_count w v l counted in
    ap (take (c + 1)) (leads_events v u m) ∙ take-append-le (c + 1) (events v.trail) (events m.0) (omega arith)

same_start : (c : ℕ) (w : World) (r s : Outcome Answer) → IsCounted w → Alike c w r s → take (c + 1) (events (world_after r).trail) ≡ take (c + 1) (events (world_after s).trail)
same_start c w r s counted x =
    elim x [
      | inl e ↦ ap (λ o. take (c + 1) (events (world_after o).trail)) e
      | inr y ↦ early c w y.0 (world_after r) counted y.1 y.2 y.3 ∙ sym (early c w y.0 (world_after s) counted y.1 y.2 y.4)
    ]

pub events_shared : (c n : ℕ) (s : Start) (k : History) → upto c s.history ≡ upto c k → take (c + 1) (events_upto n s) ≡ take (c + 1) (events_upto n (with_history s k))
events_shared c n s k same =
    let t : Start = with_history s k in
    ap (λ w. take (c + 1) (events w.trail)) (ending_world (started n s))
    ∙ same_start c (first_world s) (started n s) (started n t) refl (started_shares c n s k same).0
    ∙ sym (ap (λ w. take (c + 1) (events w.trail)) (ending_world (started n t)))
