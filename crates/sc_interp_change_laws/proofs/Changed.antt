-- A version that comes where a run stands: before it each step is as without it, the step that stands there changes the texts, and from
-- then on the run goes on under the new texts alone.
use Rattle.std.proofs.Common.{◌≡◌, ℕ, zero, suc, ◌+◌, ◌<◌, ◌≤◌, List, [], ◌∷◌, ◌++◌, arith, refl, sym, ap, ◌∙◌, subst}
use Rattle.sc_base.specs.declared.key.Key.{Key}
use Rattle.sc_meaning.specs.World.{World, Event, Happens, pass, GoesOut}
use Rattle.sc_meaning.specs.Outcomes.{Outcome, Done, Over, and_then, went}
use Rattle.sc_meaning.specs.Versions.{Text, Version, History, version_at}
use Rattle.sc_meaning.specs.Changes.{changed, happened}
use Rattle.sc_interp_machine.specs.Runs.{State, Runs, then_goes, advance}
use Rattle.sc_interp_laws.specs.Worlds.{world_of}
use Rattle.sc_interp_laws.proofs.RunSteps.{advance_leads}
use Rattle.sc_meaning.specs.Laws.{HaveCome}
use Rattle.sc_meaning.proofs.Histories.{changes_nothing_behind, present_stays}
use Rattle.sc_interp_change_laws.specs.Following.{changed_state, reached_in, Shows, LastShows}
use Rattle.sc_interp_change_laws.proofs.Between.{Agree, count_grows, event_counts}
use Rattle.sc_interp_change_laws.proofs.Later.{changes_now, changes_nothing_before, is_not_present_before}
use Rattle.sc_interp_change_laws.proofs.Steps.{step_same, named_same}

-- ---- before it comes

before_event : (h : History) (v : Version) (e : Event) (w : World) → w.count + 1 < v.count → happened h e w ≡ happened (h ++ v ∷ []) e w
before_event h v e w lt = sym (changes_nothing_before h v (pass (Happens e) w) (subst (λ n. n < v.count) (sym (event_counts e w)) lt))

pub agree_before : (h : History) (v : Version) → Agree 0 v.count h (h ++ v ∷ [])
agree_before h v = record {
  events = λ e w le lt. before_event h v e w lt;
  texts = λ n le lt. sym (is_not_present_before h v n lt);
}

-- ---- behind all that have come

pub event_behind : (n : ℕ) (h : History) (e : Event) (w : World) → HaveCome n h → n ≤ w.count → happened h e w ≡ went (pass (Happens e) w)
event_behind n h e w p le = changes_nothing_behind n h (pass (Happens e) w) (subst (λ m. n < m) (sym (event_counts e w)) (omega (arith, le))) p

-- two histories of which all have come, and that have the same texts then
pub agree_behind : (n c : ℕ) (h k : History) → HaveCome n h → HaveCome n k → version_at h n ≡ version_at k n → Agree n c h k
agree_behind n c h k p q e = record {
  events = λ x w le lt. event_behind n h x w p le ∙ sym (event_behind n k x w q le);
  texts = λ l le lt. present_stays n l h le p ∙ e ∙ sym (present_stays n l k le q);
}

-- ---- as it comes

then_then : {A B : Type 0} (r : Outcome A) (f : A → World → Outcome B) (go : B → World → State) → then_goes (and_then r f) go ≡ then_goes r (λ a w. then_goes (f a w) go)
then_then (Done a w) f go = refl
then_then (Over e) f go = refl

changes_event : (h : History) (v : Version) (e : Event) (w : World) → HaveCome v.count h → w.count + 1 ≡ v.count → happened (h ++ v ∷ []) e w ≡ and_then (happened h e w) (λ _ u. changed (version_at h v.count) v.texts u)
changes_event h v e w p c = changes_now h v (pass (Happens e) w) p (event_counts e w ∙ c)

-- where a run comes behind an event, it comes with the change to where the change brings it
changes_there : (old new : List Text) (r : Outcome (Unit {0})) (go : Unit {0} → World → State) → ((u : World) → changed_state old new (go tt u) ≡ then_goes (changed old new u) go) → then_goes (and_then r (λ _ u. changed old new u)) go ≡ changed_state old new (then_goes r go)
changes_there old new (Done x u) go q = sym (q u)
changes_there old new (Over e) go q = refl

-- fewer events had passed before
before : (n : ℕ) (texts : List Text) (count : ℕ) (f : History → State) → Shows n texts count f → n < count
before n texts count f x = omega (arith, x.later, x.counts)

pub shown_changes : (h : History) (v : Version) (n : ℕ) (texts : List Text) (f : History → State) → HaveCome v.count h → Shows n texts v.count f → version_at h n ≡ texts → f (h ++ v ∷ []) ≡ changed_state (version_at h v.count) v.texts (f h)
shown_changes h v n texts f p x e =
    let old : List Text = version_at h v.count in
    let go : Unit {0} → World → State = λ _ u. Runs x.doing x.pending x.env x.active x.callers u in
    x.comes (h ++ v ∷ []) (is_not_present_before h v n (before n texts v.count f x) ∙ e)
    ∙ ap (λ r. then_goes r go) (changes_event h v x.event x.world p x.counts)
    ∙ changes_there old v.texts (happened h x.event x.world) go (λ u. refl)
    ∙ ap (changed_state old v.texts) (sym (x.comes h e))

-- ---- a whole run

reached_grows : (h : History) (key : Key) (w : World) (k : ℕ) → (world_of (reached_in h key w k)).count ≤ (world_of (reached_in h key w (suc k))).count
reached_grows h key w k = count_grows (world_of (reached_in h key w k)) (world_of (advance h (reached_in h key w k))) (advance_leads h (reached_in h key w k))

-- where fewer events have passed than the version's count, the run is as without it
pub reached_before : (h : History) (v : Version) (key : Key) (w : World) (k : ℕ) → (world_of (reached_in h key w k)).count < v.count → reached_in h key w k ≡ reached_in (h ++ v ∷ []) key w k
reached_before h v key w zero lt = named_same 0 v.count h (h ++ v ∷ []) (agree_before h v) key [] [] (pass GoesOut w) (omega arith) lt
reached_before h v key w (suc k) lt =
    let s : State = reached_in h key w k in
    let less : (world_of s).count < v.count = omega (arith, lt, reached_grows h key w k) in
    step_same 0 v.count h (h ++ v ∷ []) (agree_before h v) s (omega arith) lt ∙ ap (advance (h ++ v ∷ [])) (reached_before h v key w k less)

-- where the last step ended with the event with the version's count, the run is changed
pub reached_changed : (h : History) (v : Version) (key : Key) (w : World) (k : ℕ) → HaveCome v.count h → LastShows h key w k v.count → reached_in (h ++ v ∷ []) key w k ≡ changed_state (version_at h v.count) v.texts (reached_in h key w k)
reached_changed h v key w zero p x = shown_changes h v w.count (version_at h w.count) (λ g. reached_in g key w 0) p x refl
reached_changed h v key w (suc k) p x =
    let s : State = reached_in h key w k in
    let n : ℕ = (world_of s).count in
    let f : History → State = λ g. advance g s in
    ap (advance (h ++ v ∷ [])) (sym (reached_before h v key w k (before n (version_at h n) v.count f x))) ∙ shown_changes h v n (version_at h n) f p x refl

-- and the next version may come there too
pub shows_still : (h : History) (v : Version) (key : Key) (w : World) (k : ℕ) → LastShows h key w k v.count → LastShows (h ++ v ∷ []) key w k v.count
shows_still h v key w zero x =
    let f : History → State = λ g. reached_in g key w 0 in
    subst (λ ts. Shows w.count ts v.count f) (sym (is_not_present_before h v w.count (before w.count (version_at h w.count) v.count f x))) x
shows_still h v key w (suc k) x =
    let s : State = reached_in h key w k in
    let n : ℕ = (world_of s).count in
    let f : History → State = λ g. advance g s in
    let lt : n < v.count = before n (version_at h n) v.count f x in
    subst (λ t. Shows (world_of t).count (version_at (h ++ v ∷ []) (world_of t).count) v.count (λ g. advance g t)) (reached_before h v key w k lt)
    (subst (λ ts. Shows n ts v.count f) (sym (is_not_present_before h v n lt)) x)

have_still_of : (n : ℕ) (h : History) (v : Version) → HaveCome n h → v.count ≤ n → HaveCome n (h ++ v ∷ [])
have_still_of n [] v p le = (le, tt)
have_still_of n (x ∷ xs) v p le = (p.0, have_still_of n xs v p.1 le)

pub have_still : (h : History) (v : Version) → HaveCome v.count h → HaveCome v.count (h ++ v ∷ [])
have_still h v p = have_still_of v.count h v p (omega arith)
