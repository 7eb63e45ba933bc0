-- Interpreted moves of a run whose versions change: before the event with which the next version comes a step is the same as under the present texts
-- alone; the step that ends with this event leaves the changed run; and a change does the same in worlds that are alike.
use Rattle.std.proofs.Common.{◌≡◌, ℕ, ◌<◌, List, [], arith, refl, sym, ap, ◌∙◌, subst}
use Rattle.sc_meaning.specs.World.{World}
use Rattle.sc_meaning.specs.Outcomes.{Outcome, Done, Over, Ending, Undefined, Exit, StackFull, BirthLimit, OutOfFuel}
use Rattle.sc_meaning.specs.Versions.{Text, History, version_at}
use Rattle.sc_meaning.specs.Changes.{changed}
use Rattle.sc_interp_machine.specs.Bodies as body
use Rattle.sc_interp_machine.specs.Runs as runs
use Rattle.sc_interp_machine.specs.Runs.{State, Runs, Makes, Answers, Ends, then_goes}
use Rattle.sc_like.specs.Alike.{Like}
use Rattle.sc_like.specs.Behind.{Settled}
use Rattle.sc_like.specs.Outcomes.{EndsAlike, AreAlike}
use Rattle.sc_like.specs.States.{BodiesAlike, StatesAlike}
use Rattle.sc_like.proofs.Alike.{steps, changes}
use Rattle.sc_like.proofs.Instances as by
use Rattle.sc_like.proofs.BodyMachine as bodies
use Rattle.sc_interp.specs.Steady as steady
use Rattle.sc_interp.specs.Steady.{alone}
use Rattle.sc_interp.specs.Shows.{shown, line_shown, entry_shown}
use Rattle.sc_interp_laws.specs.Worlds.{world_of}
use Rattle.sc_interp_change_laws.specs.Following.{changed_state, Shows}
use Rattle.sc_interp_change_laws.specs.Showing.{IsEvent}
use Rattle.sc_mixed_means.specs.Stages.{ComesWith, IsStill}
use Rattle.sc_interp_change_laws.proofs.Between.{Agree}
use Rattle.sc_interp_change_laws.proofs.Steps.{step_same}
use Rattle.sc_interp_change_laws.proofs.Showing.{step_shows}
use Rattle.sc_interp.proofs.Unchanged.{quiet, present, same_step}

-- ---- worlds that are alike are so under the present texts alone

settled : (texts : List Text) (w v : World) → Like w v → Settled (alone texts) (alone texts) w v
settled texts w v l = record { alike = l; first = (omega arith, tt); second = (omega arith, tt); texts = present texts w.count ∙ sym (present texts v.count) }

ends_settled : (texts : List Text) (e f : Ending) → EndsAlike Like e f → EndsAlike (Settled (alone texts) (alone texts)) e f
ends_settled texts (Undefined b w) f p = (p.0, settled texts w p.0 p.1, p.2)
ends_settled texts (Exit n w) f p = (p.0, settled texts w p.0 p.1, p.2)
ends_settled texts (StackFull key w) f p = (p.0, settled texts w p.0 p.1, p.2)
ends_settled texts (BirthLimit w) f p = (p.0, settled texts w p.0 p.1, p.2)
ends_settled texts (OutOfFuel w) f p = (p.0, settled texts w p.0 p.1, p.2)

states_settled : (texts : List Text) (s u : State) → StatesAlike Like s u → StatesAlike (Settled (alone texts) (alone texts)) s u
states_settled texts (Runs doing ss env a cs w) u p = (p.0, settled texts w p.0 p.1, p.2)
states_settled texts (Makes f x xs c cs w) u p = (p.0, settled texts w p.0 p.1, p.2)
states_settled texts (Answers a cs w) u p = (p.0, settled texts w p.0 p.1, p.2)
states_settled texts (Ends e) u p = (p.0, ends_settled texts e p.0 p.1, p.2)

ends_like : (h k : History) (e f : Ending) → EndsAlike (Settled h k) e f → EndsAlike Like e f
ends_like h k (Undefined b w) f p = (p.0, p.1.alike, p.2)
ends_like h k (Exit n w) f p = (p.0, p.1.alike, p.2)
ends_like h k (StackFull key w) f p = (p.0, p.1.alike, p.2)
ends_like h k (BirthLimit w) f p = (p.0, p.1.alike, p.2)
ends_like h k (OutOfFuel w) f p = (p.0, p.1.alike, p.2)

states_like : (h k : History) (s u : State) → StatesAlike (Settled h k) s u → StatesAlike Like s u
states_like h k (Runs doing ss env a cs w) u p = (p.0, p.1.alike, p.2)
states_like h k (Makes f x xs c cs w) u p = (p.0, p.1.alike, p.2)
states_like h k (Answers a cs w) u p = (p.0, p.1.alike, p.2)
states_like h k (Ends e) u p = (p.0, ends_like h k e p.0 p.1, p.2)

pub steps_alike : (texts : List Text) (s u : State) → StatesAlike Like s u → StatesAlike Like (steady.advance (alone texts) texts s) (steady.advance (alone texts) texts u)
steps_alike texts s u p =
    let q : StatesAlike Like (runs.advance (alone texts) s) (runs.advance (alone texts) u) = states_like (alone texts) (alone texts) (runs.advance (alone texts) s) (runs.advance (alone texts) u) (steps (alone texts) (alone texts) s u (states_settled texts s u p)) in
    subst (λ x. StatesAlike Like x (steady.advance (alone texts) texts u)) (same_step (alone texts) texts (quiet texts) (present texts) s)
    (subst (λ x. StatesAlike Like (runs.advance (alone texts) s) x) (same_step (alone texts) texts (quiet texts) (present texts) u) q)

-- ---- before the event with which the next version comes

pub turned : (m c : ℕ) (h k : History) → Agree m c h k → Agree m c k h
turned m c h k a = record { events = λ e w le lt. sym (a.events e w le lt); texts = λ n le lt. sym (a.texts n le lt) }

-- a history that is still agrees with its texts alone
pub as_alone : (m c : ℕ) (texts : List Text) (h : History) → IsStill m c texts h → Agree m c h (alone texts)
as_alone m c texts h s = record { events = λ e w le lt. s.events e w le lt ∙ sym (quiet texts e w); texts = λ n le lt. s.present n le lt ∙ sym (present texts n) }

pub step_before : (texts : List Text) (h : History) (c : ℕ) (s u : State) → StatesAlike Like s u → Agree (world_of u).count c h (alone texts) → (world_of (runs.advance (alone texts) u)).count < c → StatesAlike Like (steady.advance (alone texts) texts s) (runs.advance h u)
step_before texts h c s u p a lt =
    subst (λ x. StatesAlike Like (steady.advance (alone texts) texts s) x) (sym (same_step (alone texts) texts (quiet texts) (present texts) u) ∙ step_same (world_of u).count c (alone texts) h (turned (world_of u).count c h (alone texts) a) u (omega arith) lt) (steps_alike texts s u p)

-- ---- what a step shows is the same in worlds that are alike

line_alike : (b b' : body.Advanced) → BodiesAlike (Settled [] []) b b' → line_shown b ≡ line_shown b'
line_alike (body.GoesOn doing ss env w) b' p = sym (ap line_shown p.2)
line_alike (body.Lines l doing ss env w) b' p = sym (ap line_shown p.2)
line_alike (body.CallsOut t v vs is u ss env w) b' p = sym (ap line_shown p.2)
line_alike (body.Leaves way w) b' p = sym (ap line_shown p.2)
line_alike (body.Breaks e) b' p = sym (ap line_shown p.2)

entry_alike : (s t : State) → StatesAlike Like s t → entry_shown s ≡ entry_shown t
entry_alike (Runs doing ss env a cs w) t p = sym (ap entry_shown p.2)
entry_alike (Makes f x xs c cs w) t p = sym (ap entry_shown p.2)
entry_alike (Answers a cs w) t p = sym (ap entry_shown p.2)
entry_alike (Ends e) t p = sym (ap entry_shown p.2)

-- histories play no part within a body
nothing_comes : (w v : World) → Like w v → Settled [] [] w v
nothing_comes w v l = record { alike = l; first = tt; second = tt; texts = refl }

pub shown_alike : (texts : List Text) (s u : State) → StatesAlike Like s u → shown (alone texts) texts s ≡ shown (alone texts) texts u
shown_alike texts (Runs doing ss env a cs w) u p =
    line_alike (body.advance doing ss env w) (body.advance doing ss env p.0) (bodies.advance_goes (by.behind [] []) (λ A r s q. q) doing ss env w p.0 (nothing_comes w p.0 p.1)) ∙ sym (ap (shown (alone texts) texts) p.2)
shown_alike texts (Makes f x xs c cs w) u p =
    entry_alike (steady.advance (alone texts) texts (Makes f x xs c cs w)) (steady.advance (alone texts) texts (Makes f x xs c cs p.0)) (steps_alike texts (Makes f x xs c cs w) (Makes f x xs c cs p.0) (p.0, p.1, refl)) ∙ sym (ap (shown (alone texts) texts) p.2)
shown_alike texts (Answers a cs w) u p = sym (ap (shown (alone texts) texts) p.2)
shown_alike texts (Ends e) u p = sym (ap (shown (alone texts) texts) p.2)

-- ---- at that event

pub changed_there : (texts new : List Text) (h : History) (c n count : ℕ) (f : History → State) → Shows n texts count f → count ≡ c → version_at h n ≡ texts → ComesWith h c texts new → f h ≡ changed_state texts new (f (alone texts))
changed_there texts new h c n count f x e here comes =
    let go : Unit {0} → World → State = λ _ w. Runs x.doing x.pending x.env x.active x.callers w in
    x.comes h here
    ∙ ap (λ r. then_goes r go) (comes x.event x.world (x.counts ∙ e))
    ∙ ap (changed_state texts new) (sym (x.comes (alone texts) (present texts n) ∙ ap (λ r. then_goes r go) (quiet texts x.event x.world)))

pub step_at : (texts new : List Text) (h : History) (c : ℕ) (s u : State) → StatesAlike Like s u → version_at h (world_of u).count ≡ texts → ComesWith h c texts new → IsEvent (shown (alone texts) texts s) → (world_of (steady.advance (alone texts) texts u)).count ≡ c → runs.advance h u ≡ changed_state texts new (steady.advance (alone texts) texts u)
step_at texts new h c s u p here comes event e =
    changed_there texts new h c (world_of u).count (world_of (steady.advance (alone texts) texts u)).count (λ g. runs.advance g u) (step_shows (alone texts) texts u (subst IsEvent (shown_alike texts s u p) event)) e here comes
    ∙ ap (changed_state texts new) (same_step (alone texts) texts (quiet texts) (present texts) u)

-- ---- the change itself

then_like : {A : Type 0} (r s : Outcome A) (go : A → World → State) → AreAlike Like r s → ((a : A) (w v : World) → Like w v → StatesAlike Like (go a w) (go a v)) → StatesAlike Like (then_goes r go) (then_goes s go)
then_like (Done a w) s go p q = subst (λ o. StatesAlike Like (go a w) (then_goes o go)) (sym p.2) (q a w p.0 p.1)
then_like (Over e) s go p q = (p.0, p.1, ap (λ o. then_goes o go) p.2)

pub changes_alike : (old new : List Text) (s u : State) → StatesAlike Like s u → StatesAlike Like (changed_state old new s) (changed_state old new u)
changes_alike old new (Runs doing ss env a cs w) u p =
    subst (λ x. StatesAlike Like (changed_state old new (Runs doing ss env a cs w)) (changed_state old new x)) (sym p.2) (then_like (changed old new w) (changed old new p.0) (λ _ v. Runs doing ss env a cs v) (changes old new w p.0 p.1) (λ _ w v l. (v, l, refl)))
changes_alike old new (Makes f x xs c cs w) u p =
    subst (λ y. StatesAlike Like (changed_state old new (Makes f x xs c cs w)) (changed_state old new y)) (sym p.2) (then_like (changed old new w) (changed old new p.0) (λ _ v. Makes f x xs c cs v) (changes old new w p.0 p.1) (λ _ w v l. (v, l, refl)))
changes_alike old new (Answers a cs w) u p =
    subst (λ x. StatesAlike Like (changed_state old new (Answers a cs w)) (changed_state old new x)) (sym p.2) (then_like (changed old new w) (changed old new p.0) (λ _ v. Answers a cs v) (changes old new w p.0 p.1) (λ _ w v l. (v, l, refl)))
changes_alike old new (Ends e) u p = (p.0, p.1, ap (changed_state old new) p.2)
