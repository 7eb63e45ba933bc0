-- A run that goes through the versions of its history: as it begins, in each step, in each go, and as its texts change.
use Rattle.std.proofs.Common.{◌≡◌, ℕ, zero, suc, ◌+◌, ◌<◌, ◌≤◌, nat_le, Bool, true, false, if◌then◌else◌, List, [], ◌∷◌, ◌++◌, refl, ap, sym, subst, ◌∙◌, arith, add-one, Option, Some, None}
use Rattle.sc_base.specs.declared.key.Key.{Key}
use Rattle.sc_meaning.specs.World.{World, Event, Frame, Happens, GoesOut, ComesBack, events, pass}
use Rattle.sc_meaning.specs.Outcomes.{Outcome, Done, Over, Ending, Exit, and_then, world_after, world_at, went}
use Rattle.sc_meaning.specs.Versions.{Text, Version, History, callee_of, version_at}
use Rattle.sc_meaning.specs.Changes.{changed, happened, settled, statics_born}
use Rattle.sc_meaning.specs.Expressions.{Answer}
use Rattle.sc_meaning.specs.Calls.{call}
use Rattle.sc_meaning.specs.Behaviour.{Start, first_world, entry_called, ending, ending_of, events_upto, status_of}
use Rattle.sc_meaning.specs.Laws.{Leads, with_history}
use Rattle.sc_meaning.proofs.Steps.{here, on, one_more}
use Rattle.sc_meaning.proofs.Runs.{ending_leads}
use Rattle.sc_meaning.proofs.Deeper.{ending_world}
use Rattle.sc_meaning.proofs.Changing.{settled_goes}
use Rattle.sc_meaning.proofs.Histories.{have_later, present_stays}
use Rattle.sc_meaning.proofs.Growing.{Going, leads_then}
use Rattle.sc_interp_machine.specs.Runs as runs
use Rattle.sc_interp_machine.specs.Runs.{State, Runs, Makes, Answers, Ends, then_goes, advance}
use Rattle.sc_interp_machine.proofs.RunFollows.{answers_meaning, ends_meaning}
use Rattle.sc_interp_laws.specs.Worlds.{world_of}
use Rattle.sc_interp_world.specs.Outputs.{output}
use Rattle.sc_interp_laws.specs.Events.{IsPrefix}
use Rattle.sc_interp_laws.proofs.RunMeans.{leads_prefix, reached_leads}
use Rattle.sc_interp_laws.proofs.RunSteps.{advance_leads, callee_go}
use Rattle.sc_interp.specs.declared.stepped.Shown.{Shown}
use Rattle.sc_interp.specs.declared.stepped.Shown.TheVariants as now
use Rattle.sc_interp.specs.Shows.{shown, entry_shown}
use Rattle.sc_interp.specs.Steady as steady
use Rattle.sc_interp.specs.Steady.{alone}
use Rattle.sc_interp.specs.Ends.{start_of}
use Rattle.sc_interp.specs.Steps.{is_over}
use Rattle.sc_interp.proofs.Unchanged.{present}
use Rattle.sc_interp_change_laws.specs.Following.{changed_state, reached_in, LastShows, Shows}
use Rattle.sc_interp_change_laws.specs.Showing.{IsEvent}
use Rattle.sc_interp_change_laws.proofs.Between.{count_grows, event_counts}
use Rattle.sc_interp_change_laws.proofs.Changed.{have_still, reached_changed, shows_still}
use Rattle.sc_interp_change_laws.proofs.Later.{changes_nothing_before, is_present}
use Rattle.sc_interp_change_laws.proofs.Steps.{behind as behind_part}
use Rattle.sc_interp_change_laws.proofs.Going.{first_steady, step_steady}
use Rattle.sc_interp_change_laws.proofs.Showing.{first_shows, step_shows}
use Rattle.sc_words.specs.declared.stop.StopAt.{StopAt}
use Rattle.sc_words.specs.declared.stop.Walk.{Walk}
use Rattle.sc_world.specs.declared.halt.Halt.{Halt}
use Rattle.sc_world.specs.declared.halt.Halt.TheVariants.{Entered, AtLine, Ended, Paused}
use Rattle.sc_world.specs.Changing.{in_world, changed_to, changed_standing}
use Rattle.sc_world.specs.Standing as standings
use Rattle.sc_world.specs.Standing.{Standing}
use Rattle.sc_world.specs.Wants.{Want, wanted, else_over, else_paused, rests, taken}
use Rattle.sc_world.specs.Moves.{moved}
use Rattle.sc_world.specs.Goes.{GoneBy, rests_here, moves_on, with_status, closed, Leaves, Goes, want_of, entry_next, started}
use Rattle.sc_world_change_laws.specs.Through.{IsAt, StandsIn, IsBehind, IsBehindEvent, IsRunThrough, HaltsBehind, with_version}
use Rattle.sc_world_change_laws.proofs.Still.{leads_output, still}

-- ---- where a run is over

ran_reached : (h : History) (key : Key) (w : World) (j k n : ℕ) → n ≡ j + k → runs.ran j h (reached_in h key w k) ≡ reached_in h key w n
ran_reached h key w zero k n e =
    let same : k ≡ n = omega (arith, e) in
    subst (λ m. reached_in h key w k ≡ reached_in h key w m) same refl
ran_reached h key w (suc j) k n e = ran_reached h key w j (suc k) n (omega (arith, e))

from_first : (h : History) (key : Key) (w : World) (k : ℕ) → runs.ran k h (reached_in h key w 0) ≡ reached_in h key w k
from_first h key w k = ran_reached h key w k 0 k (omega arith)

comes : (s : Start) (h : History) (n : ℕ) (born : World) (r : Outcome Answer) → settled h (first_world s) ≡ Done tt born → call n h s.entry [] (pass GoesOut born) ≡ r → ending n (with_history s h) ≡ ending_of (and_then r (λ a w. Done a (pass ComesBack w)))
comes s h n born r p q =
    ap ending_of (ap (λ o. and_then o (λ _ w. entry_called n h s.entry w)) p ∙ ap (λ o. and_then o (λ a w. Done a (pass ComesBack w))) q)

ends_so : (s : Start) (h : History) (born : World) (k n : ℕ) (e : Ending) → settled h (first_world s) ≡ Done tt born → reached_in h s.entry born k ≡ Ends e → k < n → ending n (with_history s h) ≡ e
ends_so s h born k n e p q lt =
    comes s h n born (Over e) p (ends_meaning h k n s.entry [] (pass GoesOut born) e (omega arith) (from_first h s.entry born k ∙ q))

answers_so : (s : Start) (h : History) (born v : World) (a : Answer) (k n : ℕ) → settled h (first_world s) ≡ Done tt born → reached_in h s.entry born k ≡ Answers a [] v → k < n → ending n (with_history s h) ≡ Exit (status_of a) (pass ComesBack v)
answers_so s h born v a k n p q lt =
    comes s h n born (Done a v) p (answers_meaning h k n s.entry [] (pass GoesOut born) v a (omega arith) (from_first h s.entry born k ∙ q))

-- ---- each step

same_world : (st : State) → standings.world_of st ≡ world_of st
same_world (Runs doing ss env a cs w) = refl
same_world (Makes t v vs c cs w) = refl
same_world (Answers a cs w) = refl
same_world (Ends e) = refl

as_standing : (s : Start) (h : History) (texts : List Text) (k : ℕ) (st : State) → IsBehind s h texts k st (world_of st).count → IsBehind s h texts k st (standings.world_of st).count
as_standing s h texts k st p = subst (λ w. IsBehind s h texts k st w.count) (sym (same_world st)) p

module _ (s : Start) (h : History) (texts : List Text) where
  -- a place that the call of the entry reached is meant so
  reached : (k : ℕ) (st : State) → IsAt s h texts k st → StandsIn s h texts k st
  reached k (Runs doing ss env a cs w) p = p
  reached k (Makes t v vs c cs w) p = p
  reached k (Answers a cs w) p = p
  reached k (Ends e) p = λ n lt. ends_so s h p.born k n e p.births p.stands lt

  abbrev next : State → State
  next st = steady.advance (alone texts) texts st

  module _ (k : ℕ) (st : State) (p : IsAt s h texts k st) where
    same : advance h st ≡ next st
    same = step_steady h texts st p.come p.present

    grows : (world_of st).count ≤ (world_of (next st)).count
    grows = subst (λ t. (world_of st).count ≤ (world_of t).count) same (count_grows (world_of st) (world_of (advance h st)) (advance_leads h st))

    there : reached_in h s.entry p.born (k + 1) ≡ next st
    there = ap (reached_in h s.entry p.born) (add-one k) ∙ ap (advance h) p.stands ∙ same

    onward : IsAt s h texts (k + 1) (next st)
    onward = record {
      born = p.born;
      births = p.births;
      stands = there;
      come = have_later (world_of st).count (world_of (next st)).count h grows p.come;
      present = present_stays (world_of st).count (world_of (next st)).count h grows p.come ∙ p.present;
    }

    last_shows : IsEvent (shown (alone texts) texts st) → LastShows h s.entry p.born (k + 1) (world_of (next st)).count
    last_shows e =
        let c : ℕ = (world_of (next st)).count in
        subst (λ j. LastShows h s.entry p.born j c) (sym (add-one k))
        (subst (λ t. Shows (world_of t).count (version_at h (world_of t).count) c (λ g. advance g t)) (sym p.stands)
        (subst (λ ts. Shows (world_of st).count ts c (λ g. advance g st)) (sym p.present) (step_shows (alone texts) texts st e)))

    behind : IsEvent (shown (alone texts) texts st) → IsBehind s h texts (k + 1) (next st) (world_of (next st)).count
    behind e = record {
      born = p.born;
      births = p.births;
      stands = there;
      come = onward.come;
      present = onward.present;
      shows = last_shows e;
    }

  step_stands : (k : ℕ) (st : State) → StandsIn s h texts k st → StandsIn s h texts (k + 1) (next st)
  step_stands k (Runs doing ss env a cs w) p = reached (k + 1) (next (Runs doing ss env a cs w)) (onward k (Runs doing ss env a cs w) p)
  step_stands k (Makes t v vs c cs w) p = reached (k + 1) (next (Makes t v vs c cs w)) (onward k (Makes t v vs c cs w) p)
  step_stands k (Answers a cs w) p = reached (k + 1) (next (Answers a cs w)) (onward k (Answers a cs w) p)
  step_stands k (Ends e) p = λ n lt. p n (omega (arith, lt))

  step_behind : (k : ℕ) (st : State) → StandsIn s h texts k st → IsEvent (shown (alone texts) texts st) → IsBehind s h texts (k + 1) (next st) (standings.world_of (next st)).count
  step_behind k (Runs doing ss env a cs w) p e = as_standing s h texts (k + 1) (next (Runs doing ss env a cs w)) (behind k (Runs doing ss env a cs w) p e)
  step_behind k (Makes t v vs c cs w) p e = as_standing s h texts (k + 1) (next (Makes t v vs c cs w)) (behind k (Makes t v vs c cs w) p e)
  step_behind k (Answers a cs w) p e = absurd e
  step_behind k (Ends x) p e = absurd e

  ran_stands : (j k : ℕ) (st : State) → StandsIn s h texts k st → StandsIn s h texts (k + j) (steady.ran j (alone texts) texts st)
  ran_stands zero k st p = let same : k ≡ k + 0 = omega arith in subst (λ n. StandsIn s h texts n st) same p
  ran_stands (suc j) k st p =
      let same : k + 1 + j ≡ k + suc j = omega arith in
      subst (λ n. StandsIn s h texts n (steady.ran j (alone texts) texts (next st))) same (ran_stands j (k + 1) (next st) (step_stands k st p))

  move_through : (j : ℕ) (m : Standing) → IsRunThrough s h texts (Some m) → IsRunThrough s h texts (Some (moved j texts m))
  move_through j m p =
      let st : State = steady.ran j (alone texts) texts m.state in
      let q : StandsIn s h texts (m.steps + j) st = ran_stands j m.steps m.state p.0 in
      let one : m.steps + j + 1 ≡ m.steps + suc j = omega arith in
      (subst (λ n. StandsIn s h texts n (next st)) one (step_stands (m.steps + j) st q), λ e. subst (λ n. IsBehind s h texts n (next st) (standings.world_of (next st)).count) one (step_behind (m.steps + j) st q e))

-- ---- behind an event

-- an event is counted, and what it changes takes none away
event_later : (h : History) (e : Event) (w : World) → w.count + 1 ≤ (world_after (happened h e w)).count
event_later h e w = subst (λ n. n ≤ (world_after (happened h e w)).count) (event_counts e w) (count_grows (pass (Happens e) w) (world_after (happened h e w)) (settled_goes Going h (pass (Happens e) w)))

shows_later : (h : History) (n : ℕ) (c : ℕ) (f : History → State) → Shows n (version_at h n) c f → c ≤ (world_of (f h)).count
shows_later h n c f x =
    let go : Unit {0} → World → State = λ _ w. Runs x.doing x.pending x.env x.active x.callers w in
    let r : Outcome (Unit {0}) = happened h x.event x.world in
    subst (λ t. c ≤ (world_of t).count) (sym (x.comes h refl)) (omega (arith, x.counts, event_later h x.event x.world, behind_part r go (λ _ v. omega arith)))

last_later : (h : History) (key : Key) (w : World) (k c : ℕ) → LastShows h key w k c → c ≤ (world_of (reached_in h key w k)).count
last_later h key w zero c x = shows_later h w.count c (λ g. reached_in g key w 0) x
last_later h key w (suc k) c x = shows_later h (world_of (reached_in h key w k)).count c (λ g. advance g (reached_in h key w k)) x

shows_first : (h : History) (n c : ℕ) (f : History → State) → Shows n (version_at h n) c f → 0 < c
shows_first h n c f x = omega (arith, x.counts)

last_first : (h : History) (key : Key) (w : World) (k c : ℕ) → LastShows h key w k c → 0 < c
last_first h key w zero c x = shows_first h w.count c (λ g. reached_in g key w 0) x
last_first h key w (suc k) c x = shows_first h (world_of (reached_in h key w k)).count c (λ g. advance g (reached_in h key w k)) x

-- a body runs there: no status is given
runs_on : (r : Outcome (Unit {0})) (go : World → State) → ((w : World) → with_status (go w) ≡ go w) → with_status (then_goes r (λ _ w. go w)) ≡ then_goes r (λ _ w. go w)
runs_on (Done x w) go q = q w
runs_on (Over e) go q = refl

shows_on : (h : History) (n c : ℕ) (f : History → State) → Shows n (version_at h n) c f → with_status (f h) ≡ f h
shows_on h n c f x =
    ap with_status (x.comes h refl) ∙ runs_on (happened h x.event x.world) (λ w. Runs x.doing x.pending x.env x.active x.callers w) (λ w. refl) ∙ sym (x.comes h refl)

last_on : (h : History) (key : Key) (w : World) (k c : ℕ) → LastShows h key w k c → with_status (reached_in h key w k) ≡ reached_in h key w k
last_on h key w zero c x = shows_on h w.count c (λ g. reached_in g key w 0) x
last_on h key w (suc k) c x = shows_on h (world_of (reached_in h key w k)).count c (λ g. advance g (reached_in h key w k)) x

module _ (s : Start) (h : History) (texts : List Text) where
  behind_stands : (k : ℕ) (st : State) (c : ℕ) → IsBehind s h texts k st c → StandsIn s h texts k st
  behind_stands k st c p =
      let le : c ≤ (world_of st).count = subst (λ t. c ≤ (world_of t).count) p.stands (last_later h s.entry p.born k c p.shows) in
      reached s h texts k st (record {
        born = p.born;
        births = p.births;
        stands = p.stands;
        come = have_later c (world_of st).count h le p.come;
        present = present_stays c (world_of st).count h le p.come ∙ p.present;
      })

  behind_closed : (k : ℕ) (st : State) → IsBehind s h texts k st (standings.world_of st).count → IsBehind s h texts k (with_status st) (standings.world_of (with_status st)).count
  behind_closed k st p =
      subst (λ t. IsBehind s h texts k t (standings.world_of t).count) (sym (ap with_status (sym p.stands) ∙ last_on h s.entry p.born k (standings.world_of st).count p.shows ∙ p.stands)) p

  closed_stands : (k : ℕ) (st : State) → StandsIn s h texts k st → StandsIn s h texts k (with_status st)
  closed_stands k (Runs doing ss env a cs w) p = p
  closed_stands k (Makes t v vs c cs w) p = p
  closed_stands k (Answers a [] w) p = λ n lt. answers_so s h p.born w a k n p.births p.stands lt
  closed_stands k (Answers a (c ∷ cs) w) p = p
  closed_stands k (Ends e) p = p

-- ---- a go

abbrev pub IsStop : Halt → Type 0
IsStop Entered = Unit {0}
IsStop AtLine = Unit {0}
IsStop _ = ⊥

pauses_not : (b : Bool) (took : ℕ) (halt : Halt) → (if b then Some (Paused took) else None) ≡ Some halt → IsStop halt → ⊥
pauses_not true took Entered e p = cc
pauses_not true took AtLine e p = cc
pauses_not true took Ended e p = p
pauses_not true took (Paused n) e p = p
pauses_not false took halt e p = cc

overs_not : (over : Bool) (turns took : ℕ) (halt : Halt) → else_paused (if over then Some Ended else None) turns took ≡ Some halt → IsStop halt → ⊥
overs_not true turns took Entered e p = cc
overs_not true turns took AtLine e p = cc
overs_not true turns took Ended e p = p
overs_not true turns took (Paused n) e p = p
overs_not false turns took halt e p = pauses_not (nat_le turns took) took halt e p

event_seen : (want : Want) (x : Shown) (fs : List Frame) (over : Bool) (took : ℕ) (halt : Halt) → else_paused (else_over (wanted want x fs) over) want.turns took ≡ Some halt → IsStop halt → IsEvent x
event_seen want now.Nothing fs over took halt e p = overs_not over want.turns took halt e p
event_seen want (now.Line l) fs over took halt e p = tt
event_seen want now.Entered fs over took halt e p = tt

module _ (s : Start) (h : History) (texts : List Text) where
  -- where a go leads
  abbrev Led : Halt → Standing → Type 0
  Led halt left = StandsIn s h texts left.steps left.state × (IsStop halt → IsBehindEvent s h texts left) × (left.shown ≡ now.Nothing)

  go_led : (want : Want) (halt : Halt) (left m : Standing) → GoneBy texts want halt left m → IsRunThrough s h texts (Some m) → Led halt left
  go_led want halt left x (rests_here m e at) p =
      subst (Led halt) (sym at) (p.0, (λ x. p.1 (event_seen want m.shown (standings.world_of m.state).frames (is_over m.state) (taken want m) halt e x)), refl)
  go_led want halt left x (moves_on m k small e silent rest) p = go_led want halt left (moved k texts m) rest (move_through s h texts k m p)

  no_event : (x : Shown) → x ≡ now.Nothing → IsEvent x → ⊥
  no_event x e p = subst IsEvent e p

  closed_led : (halt : Halt) (left : Standing) → Led halt left → IsRunThrough s h texts (Some (closed left))
  closed_led halt left p = (closed_stands s h texts left.steps left.state p.0, λ e. absurd (no_event left.shown p.2 e))

  closed_halts : (halt : Halt) (left : Standing) → Led halt left → HaltsBehind s h texts halt (Some (closed left))
  closed_halts Entered left p = behind_closed s h texts left.steps left.state (p.1 tt)
  closed_halts AtLine left p = behind_closed s h texts left.steps left.state (p.1 tt)
  closed_halts Ended left p = tt
  closed_halts (Paused n) left p = tt

  leaves_through : (want : Want) (m : Standing) (halt : Halt) (new : Option Standing) → IsRunThrough s h texts (Some m) → Leaves texts want m halt new → IsRunThrough s h texts new × HaltsBehind s h texts halt new
  leaves_through want m halt None p q = (tt, subst (λ x. HaltsBehind s h texts x None) (sym q) tt)
  leaves_through want m halt (Some n) p q =
      let led = go_led want halt q.0 m q.1 p in
      subst (λ n. IsRunThrough s h texts (Some n) × HaltsBehind s h texts halt (Some n)) q.2 (closed_led halt q.0 led, closed_halts halt q.0 led)

  pub goes_through : (stops : List StopAt) (walk : Walk) (turns : ℕ) (old : Option Standing) (halt : Halt) (new : Option Standing) → Goes texts stops walk turns old halt new → IsRunThrough s h texts old → IsRunThrough s h texts new × HaltsBehind s h texts halt new
  goes_through stops walk turns None halt new p q =
      subst (λ r. IsRunThrough s h texts r × HaltsBehind s h texts halt r) (sym p.1) (tt, subst (λ x. HaltsBehind s h texts x None) (sym p.0) tt)
  goes_through stops walk turns (Some m) halt new p q = leaves_through (want_of stops walk turns m) m halt new q p

-- ---- a change

-- what is left of where a run stood
changed_to_state : (m : Standing) (r : Outcome (Unit {0})) (go : World → State) → ((v : World) → in_world m.state v ≡ go v) → (changed_to m r).state ≡ then_goes r (λ _ v. go v)
changed_to_state m (Done x w) go q = q w
changed_to_state m (Over e) go q = refl

changed_to_steps : (m : Standing) (r : Outcome (Unit {0})) → (changed_to m r).steps ≡ m.steps
changed_to_steps m (Done x w) = refl
changed_to_steps m (Over e) = refl

-- so a run stands behind it
to_state : (old new : List Text) (st : State) (x : Shown) (steps turns : ℕ) → (changed_standing old new (record { state = st; shown = x; steps = steps; turns = turns })).state ≡ changed_state old new st
to_state old new (Runs doing ss env a cs w) x steps turns = changed_to_state (record { state = Runs doing ss env a cs w; shown = x; steps = steps; turns = turns }) (changed old new w) (λ v. Runs doing ss env a cs v) (λ v. refl)
to_state old new (Makes t v vs c cs w) x steps turns = changed_to_state (record { state = Makes t v vs c cs w; shown = x; steps = steps; turns = turns }) (changed old new w) (λ u. Makes t v vs c cs u) (λ v. refl)
to_state old new (Answers a cs w) x steps turns = changed_to_state (record { state = Answers a cs w; shown = x; steps = steps; turns = turns }) (changed old new w) (λ v. Answers a cs v) (λ v. refl)
to_state old new (Ends e) x steps turns = refl

to_steps : (old new : List Text) (st : State) (x : Shown) (steps turns : ℕ) → (changed_standing old new (record { state = st; shown = x; steps = steps; turns = turns })).steps ≡ steps
to_steps old new (Runs doing ss env a cs w) x steps turns = changed_to_steps (record { state = Runs doing ss env a cs w; shown = x; steps = steps; turns = turns }) (changed old new w)
to_steps old new (Makes t v vs c cs w) x steps turns = changed_to_steps (record { state = Makes t v vs c cs w; shown = x; steps = steps; turns = turns }) (changed old new w)
to_steps old new (Answers a cs w) x steps turns = changed_to_steps (record { state = Answers a cs w; shown = x; steps = steps; turns = turns }) (changed old new w)
to_steps old new (Ends e) x steps turns = refl

module _ (s : Start) (h : History) (old new : List Text) where
  behind_changed : (k : ℕ) (st : State) (c : ℕ) → IsBehind s h old k st c → IsBehind s (h ++ record { count = c; texts = new } ∷ []) new k (changed_state old new st) c
  behind_changed k st c p =
      let v : Version = record { count = c; texts = new } in
      record {
        born = p.born;
        births = changes_nothing_before h v (first_world s) (last_first h s.entry p.born k c p.shows) ∙ p.births;
        stands = reached_changed h v s.entry p.born k p.come p.shows ∙ ap (λ ts. changed_state ts new (reached_in h s.entry p.born k)) p.present ∙ ap (changed_state old new) p.stands;
        come = have_still h v p.come;
        present = is_present h v c p.come (omega arith);
        shows = shows_still h v s.entry p.born k p.shows;
      }

  pub change_behind : (m : Standing) → IsBehindEvent s h old m → IsBehindEvent s (with_version h new (standings.world_of m.state)) new (changed_standing old new m)
  change_behind m p =
      let c : ℕ = (standings.world_of m.state).count in
      let k : History = with_version h new (standings.world_of m.state) in
      let n : Standing = changed_standing old new m in
      let there : IsBehind s k new n.steps n.state c =
      subst (λ j. IsBehind s k new j n.state c) (sym (to_steps old new m.state m.shown m.steps m.turns))
      (subst (λ t. IsBehind s k new m.steps t c) (sym (to_state old new m.state m.shown m.steps m.turns)) (behind_changed m.steps m.state c p)) in
      subst (λ d. IsBehind s k new n.steps n.state d) (sym (still old new m).counts) there

  pub change_through : (m : Standing) → IsBehindEvent s h old m → IsRunThrough s (with_version h new (standings.world_of m.state)) new (Some (changed_standing old new m))
  change_through m p =
      let k : History = with_version h new (standings.world_of m.state) in
      let n : Standing = changed_standing old new m in
      let q : IsBehindEvent s k new n = change_behind m p in
      (behind_stands s k new n.steps n.state (standings.world_of n.state).count q, λ e. q)

-- ---- the start

settled_once : (r : Outcome (Unit {0})) → and_then r (λ _ w. went w) ≡ r
settled_once (Done x w) = refl
settled_once (Over e) = refl

module _ (s : Start) (texts : List Text) where
  abbrev first_shown : Outcome (Unit {0}) → State
  first_shown r = then_goes r (λ _ born. entry_next texts s.entry [] born)

  settles : settled (alone texts) (first_world s) ≡ statics_born texts (first_world s)
  settles = settled_once (statics_born texts (first_world s))

  first_behind : (born : World) → statics_born texts (first_world s) ≡ Done tt born → IsEvent (entry_shown (entry_next texts s.entry [] born)) → IsBehind s (alone texts) texts 0 (entry_next texts s.entry [] born) (standings.world_of (entry_next texts s.entry [] born)).count
  first_behind born p e =
      let c : ℕ = (world_of (entry_next texts s.entry [] born)).count in
      as_standing s (alone texts) texts 0 (entry_next texts s.entry [] born) (record {
        born = born;
        births = settles ∙ p;
        stands = first_steady texts s.entry born;
        come = (omega arith, tt);
        present = present texts c;
        shows = subst (λ ts. Shows born.count ts c (λ g. reached_in g s.entry born 0)) (sym (present texts born.count)) (first_shows (alone texts) texts s.entry born e);
      })

  first_at : (born : World) → statics_born texts (first_world s) ≡ Done tt born → StandsIn s (alone texts) texts 0 (entry_next texts s.entry [] born)
  first_at born p =
      let st : State = entry_next texts s.entry [] born in
      reached s (alone texts) texts 0 st (record {
        born = born;
        births = settles ∙ p;
        stands = first_steady texts s.entry born;
        come = (omega arith, tt);
        present = present texts (world_of st).count;
      })

  births_over : (e : Ending) → statics_born texts (first_world s) ≡ Over e → (n : ℕ) → ending n (with_history s (alone texts)) ≡ e
  births_over e p n = ap (λ o. ending_of (and_then o (λ _ w. entry_called n (alone texts) s.entry w))) (settles ∙ p)

  first_through : (r : Outcome (Unit {0})) → statics_born texts (first_world s) ≡ r → StandsIn s (alone texts) texts 0 (first_shown r) × (IsEvent (entry_shown (first_shown r)) → IsBehind s (alone texts) texts 0 (first_shown r) (standings.world_of (first_shown r)).count)
  first_through (Done x born) p = (first_at born p, λ e. first_behind born p e)
  first_through (Over e) p = ((λ n lt. births_over e p n), λ q. absurd q)

pub begins_through : (texts : List Text) (key : Key) (stack heap : ℕ) (input : List ℕ) → IsRunThrough (start_of texts key stack heap input) (alone texts) texts (Some (started texts key stack heap input))
begins_through texts key stack heap input =
    let s : Start = start_of texts key stack heap input in
    first_through s texts (statics_born texts (first_world s)) refl

-- ---- what has happened

module _ (s : Start) (h : History) (texts : List Text) where
  at_leads : (k : ℕ) (st : State) → IsAt s h texts k st → (n : ℕ) → k < n → Leads (world_of st) (world_at (ending n (with_history s h)))
  at_leads k st p n lt =
      let c : Outcome Answer = call n h s.entry [] (pass GoesOut p.born) in
      let back : Answer → World → Outcome Answer = λ a w. Done a (pass ComesBack w) in
      let called : Leads (world_of st) (world_after c) = subst (λ t. Leads (world_of t) (world_after c)) (from_first h s.entry p.born k ∙ p.stands) (reached_leads h k n s.entry [] (pass GoesOut p.born) lt) in
      let over : Leads (world_of st) (world_after (and_then c back)) = leads_then (world_of st) c back called (λ a v. one_more ComesBack v) in
      subst (λ e. Leads (world_of st) (world_at e)) (sym (comes s h n p.born c p.births refl)) (subst (Leads (world_of st)) (sym (ending_world (and_then c back))) over)

  stands_leads : (k : ℕ) (st : State) → StandsIn s h texts k st → (n : ℕ) → k < n → Leads (world_of st) (world_at (ending n (with_history s h)))
  stands_leads k (Runs doing ss env a cs w) p n lt = at_leads k (Runs doing ss env a cs w) p n lt
  stands_leads k (Makes t v vs c cs w) p n lt = at_leads k (Makes t v vs c cs w) p n lt
  stands_leads k (Answers a cs w) p n lt = at_leads k (Answers a cs w) p n lt
  stands_leads k (Ends e) p n lt = subst (λ x. Leads (world_at e) (world_at x)) (sym (p n lt)) (here (world_at e))

  -- in a world of the run's own
  pub through_leads : (m : Standing) → IsRunThrough s h texts (Some m) → (n : ℕ) → m.steps < n → Leads (standings.world_of m.state) (world_at (ending n (with_history s h)))
  through_leads m p n lt = subst (λ w. Leads w (world_at (ending n (with_history s h)))) (sym (same_world m.state)) (stands_leads m.steps m.state p.0 n lt)

  pub first_events : (m : Standing) → IsRunThrough s h texts (Some m) → (n : ℕ) → m.steps < n → IsPrefix (events (standings.world_of m.state).trail) (events_upto n (with_history s h))
  first_events m p n lt = leads_prefix (standings.world_of m.state) (world_at (ending n (with_history s h))) (through_leads m p n lt)

  pub through_written : (m : Standing) → IsRunThrough s h texts (Some m) → (n : ℕ) → m.steps < n → IsPrefix (output (standings.world_of m.state).trail) (output (world_at (ending n (with_history s h))).trail)
  through_written m p n lt = leads_output (standings.world_of m.state) (world_at (ending n (with_history s h))) (through_leads m p n lt)

  over_there : (k : ℕ) (st : State) (e : Ending) → StandsIn s h texts k st → st ≡ Ends e → (n : ℕ) → k < n → ending n (with_history s h) ≡ e
  over_there k st e p q = subst (λ t. StandsIn s h texts k t) q p

  pub ends_as_meant : (m : Standing) (e : Ending) → IsRunThrough s h texts (Some m) → m.state ≡ Ends e → (n : ℕ) → m.steps < n → ending n (with_history s h) ≡ e
  ends_as_meant m e p q n lt = over_there m.steps m.state e p.0 q n lt

  -- where it is over, all events have passed
  over_events : (k : ℕ) (st : State) → StandsIn s h texts k st → standings.has_ended st ≡ true → (n : ℕ) → k < n → events (standings.world_of st).trail ≡ events_upto n (with_history s h)
  over_events k (Runs doing ss env a cs w) p over n lt = absurd (cc)
  over_events k (Makes t v vs c cs w) p over n lt = absurd (cc)
  over_events k (Answers a cs w) p over n lt = absurd (cc)
  over_events k (Ends e) p over n lt = ap (λ f. events (world_at f).trail) (sym (p n lt))

  pub all_events : (m : Standing) → IsRunThrough s h texts (Some m) → standings.has_ended m.state ≡ true → (n : ℕ) → m.steps < n → events (standings.world_of m.state).trail ≡ events_upto n (with_history s h)
  all_events m p over n lt = over_events m.steps m.state p.0 over n lt

  -- ---- from the start

  reached_comes : (born : World) (k : ℕ) → Leads (pass GoesOut born) (world_of (reached_in h s.entry born k))
  reached_comes born zero = callee_go h s.entry [] (callee_of (version_at h (pass GoesOut born).count) s.entry) [] (pass GoesOut born)
  reached_comes born (suc k) =
      on (pass GoesOut born) (world_of (reached_in h s.entry born k)) (world_of (reached_in h s.entry born (suc k))) (reached_comes born k) (advance_leads h (reached_in h s.entry born k))

  births_come : (born : World) → settled h (first_world s) ≡ Done tt born → Leads (first_world s) born
  births_come born p = subst (λ r. Leads (first_world s) (world_after r)) p (settled_goes Going h (first_world s))

  at_comes : (k : ℕ) (st : State) → IsAt s h texts k st → Leads (first_world s) (world_of st)
  at_comes k st p =
      let out : World = pass GoesOut p.born in
      let called : Leads (first_world s) out = on (first_world s) p.born out (births_come p.born p.births) (one_more GoesOut p.born) in
      on (first_world s) out (world_of st) called (subst (λ t. Leads out (world_of t)) p.stands (reached_comes p.born k))

  stands_comes : (k : ℕ) (st : State) → StandsIn s h texts k st → Leads (first_world s) (standings.world_of st)
  stands_comes k (Runs doing ss env a cs w) p = at_comes k (Runs doing ss env a cs w) p
  stands_comes k (Makes t v vs c cs w) p = at_comes k (Makes t v vs c cs w) p
  stands_comes k (Answers a cs w) p = at_comes k (Answers a cs w) p
  stands_comes k (Ends e) p = subst (λ x. Leads (first_world s) (world_at x)) (p (suc k) (omega arith)) (ending_leads (suc k) (with_history s h))

  -- the start leads to where a run stands
  pub through_comes : (m : Standing) → IsRunThrough s h texts (Some m) → Leads (first_world s) (standings.world_of m.state)
  through_comes m p = stands_comes m.steps m.state p.0
