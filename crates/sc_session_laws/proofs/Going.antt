-- A go of a session's run, as the meaning has it.
use Rattle.std.proofs.Common.{◌≡◌, ◌⊎◌, inl, inr, ℕ, zero, suc, ◌-◌, ◌<◌, ◌≤◌, Bool, true, false, ◌++◌, drop, length, refl, sym, ap, ◌∙◌, subst, arith, List, [], Option, Some, None}
use Rattle.std.specs.Prelude.{nat_le}
use Rattle.std.proofs.lemmas.Bool.Decides.{nat_tests}
use Rattle.sc_base.specs.declared.key.Key.{Key}
use Rattle.sc_meaning.specs.World.{World, Event, events}
use Rattle.sc_meaning.specs.Behaviour.{Start, ending, events_upto, first_world}
use Rattle.sc_meaning.specs.Laws.{with_history}
use Rattle.sc_meaning.specs.Outcomes.{world_at}
use Rattle.sc_meaning.specs.Versions.{History, InLibrary, Text, callee_of}
use Rattle.sc_meaning.specs.declared.library.LibFun.{LibFun}
use Rattle.sc_interp.specs.Steady.{alone}
use Rattle.sc_interp.specs.Steps.{is_over}
use Rattle.sc_interp.specs.Ends.{start_of}
use Rattle.sc_interp_access.specs.declared.ended.Ended.TheVariants as ended
use Rattle.sc_interp_laws.specs.Lean.{AreLean, IsLean}
use Rattle.sc_interp_world.specs.Outputs.{output}
use Rattle.sc_session_texts.specs.Ends.{entered_text, line_text, outcome_text, stop_text, on_new_line}
use Rattle.sc_words.specs.declared.stop.StopAt.{StopAt}
use Rattle.sc_words.specs.declared.stop.Walk.{Walk}
use Rattle.sc_world.specs.declared.halt.Halt.{Halt}
use Rattle.sc_world.specs.declared.halt.Halt.TheVariants as halt
use Rattle.sc_world.specs.Goes.{Goes, GoneBy, rests_here, moves_on, closed, seen, started, want_of}
use Rattle.sc_world_change_laws.specs.Still.{IsStill}
use Rattle.sc_world_change_laws.specs.Through.{IsRunThrough, HaltsBehind}
use Rattle.sc_world_change_laws.proofs.Still.{still_here}
use Rattle.sc_world_change_laws.proofs.Through.{all_events, begins_through, ends_as_meant, first_events, goes_through, through_comes, through_leads}
use Rattle.sc_world.specs.Standing.{Standing, world_of}
use Rattle.sc_world.specs.Wants.{Want, wanted, halts, halt_if, halt_or, else_paused, taken}
use Rattle.sc_world.proofs.Pauses.{pauses}
use Rattle.sc_world_laws.specs.Told.{HaltsAt, IsAt, event_of, selects}
use Rattle.sc_world_laws.proofs.Halting.{Chosen, goes_at, goes_halt, goes_last, goes_seen, over_ended, sel, turns_bound, wanted_chosen}
use Rattle.sc_world_laws.proofs.Pausing.{goes_lean, pauses_passed}
use Rattle.sc_session.specs.declared.state.State.{State}
use Rattle.sc_session.specs.Going as going
use Rattle.sc_session.specs.Going.{Told, Went, state_after}
use Rattle.sc_session_laws.specs.Courses.{Course, IsMeant, Begins, PausesSo, Passes, Says, left_by, IsTold}
use Rattle.sc_session_laws.specs.Follows.{course_of, Earned, Follows, FollowsOn}
use Rattle.sc_session_laws.proofs.Ending.{ends_so, no_end}
use Rattle.sc_session_laws.proofs.Starting.{starts_fresh}
use Rattle.sc_session_laws.proofs.Working.{goes_earned, passed_before, passed_in_all}

is_meant : (s : Start) (h : History) (texts : List Text) (m : Standing) (old : List Event) → IsRunThrough s h texts (Some m) → IsAt m old → IsMeant (course_of (with_history s h) m old)
is_meant s h texts m old of at = record {
  comes = through_comes s h texts m of;
  happens = λ b lt. through_leads s h texts m of b lt;
  enough = λ nodes. turns_bound m old nodes at;
}

-- ---- a pause

same_turns : (a b : ℕ) → halt.Paused a ≡ halt.Paused b → a ≡ b
same_turns a b p = cc

not_chosen : {P : Type 0} (selected : Event → Bool) (t : ℕ) (es : List Event) → Chosen selected (halt.Paused t) es → P
not_chosen selected t es (e, one, chosen, inl (p, q)) = absurd (cc)
not_chosen selected t es (e, one, chosen, inr (p, q)) = absurd (cc)

not_halted : {P : Type 0} (want : Want) (m : Standing) (t : ℕ) → (wanted want m.shown (world_of m.state).frames ≡ Some (halt.Paused t)) ⊎ ((wanted want m.shown (world_of m.state).frames ≡ None) × (is_over m.state ≡ true) × (halt.Paused t ≡ halt.Ended)) → P
not_halted want m t (inl p) = not_chosen (sel want) t (event_of m.shown (world_of m.state).frames) (wanted_chosen want m.shown (world_of m.state).frames (halt.Paused t) p)
not_halted want m t (inr (p, q, r)) = absurd (cc)

-- a go that may take no turn pauses where it began
taken_here : (want : Want) (m : Standing) (t : ℕ) (o : Option Halt) → halts want m ≡ o → halt_or o (halt.Paused (taken want m)) ≡ halt.Paused t → t ≡ taken want m
taken_here want m t None e p = sym (same_turns (taken want m) t p)
taken_here want m t (Some h) e p = not_halted want m t (over_ended (wanted want m.shown (world_of m.state).frames) (is_over m.state) (halt.Paused t) (e ∙ ap (λ g. Some g) p))

no_fewer : (t : ℕ) → 0 ≤ t
no_fewer t = omega arith

le_is : (m n : ℕ) → m ≤ n → nat_le m n ≡ true
le_is m n h = grind (arith, nat_tests)

not_none : {P : Type 0} (b : Bool) (h : Halt) → b ≡ true → halt_if b h ≡ None → P
not_none true h e p = absurd (cc)
not_none false h e p = absurd (cc)

none_at_zero : {P : Type 0} (o : Option Halt) (took : ℕ) → else_paused o 0 took ≡ None → P
none_at_zero (Some h) took p = absurd (cc)
none_at_zero None took p = not_none (nat_le 0 took) (halt.Paused took) (le_is 0 took (omega arith)) p

paused_if : (b : Bool) (a t : ℕ) → halt_if b (halt.Paused a) ≡ Some (halt.Paused t) → halt.Paused a ≡ halt.Paused t
paused_if true a t p = cc
paused_if false a t p = absurd (cc)

paused_at_zero : (o : Option Halt) (took t : ℕ) → else_paused o 0 took ≡ Some (halt.Paused t) → halt_or o (halt.Paused took) ≡ halt.Paused t
paused_at_zero (Some h) took t p = cc
paused_at_zero None took t p = paused_if (nat_le 0 took) took t p

rests_at_zero : (texts : List Text) (want : Want) (h : Halt) (last m : Standing) → want.turns ≡ 0 → GoneBy texts want h last m → (else_paused (halts want m) 0 (taken want m) ≡ Some h) × (last ≡ seen m)
rests_at_zero texts want h last n few (rests_here m e is) = (subst (λ k. else_paused (halts want m) k (taken want m) ≡ Some h) few e, is)
rests_at_zero texts want h last n few (moves_on m k small none silent rest) = none_at_zero (halts want m) (taken want m) (subst (λ k. else_paused (halts want m) k (taken want m) ≡ None) few none)

enough_turns : (texts : List Text) (stops : List StopAt) (how : Walk) (turns : ℕ) (m n : Standing) (t : ℕ) → Goes texts stops how turns (Some m) (halt.Paused t) (Some n) → (turns ≤ t) × (t ≡ n.turns - m.turns)
enough_turns texts stops how zero m n t goes =
    let (last, go, is) = goes in
    let want : Want = want_of stops how 0 m in
    let here = rests_at_zero texts want (halt.Paused t) last m refl go in
    (no_fewer t, taken_here want m t (halts want m) refl (paused_at_zero (halts want m) (taken want m) t here.0) ∙ ap (λ k. k.turns - m.turns) (sym (ap closed here.1) ∙ is))
enough_turns texts stops how (suc k) m n t goes =
    let some : 0 < suc k = omega arith in
    let p = pauses texts stops how (suc k) (Some m) (halt.Paused t) (Some n) m n t goes refl refl refl some in
    (p.enough, p.took ∙ ap (λ q. q.turns - m.turns) (sym p.last_move))

-- ---- a go

-- a state is that behind a go that halted so
abbrev pub IsBehind : Halt → State → Type 0
IsBehind h after = (r : Option Standing) × (after ≡ state_after h r)

module _ (s : Start) (h : History) (texts : List Text) (stops : List StopAt) (how : Walk) (turns : ℕ) (valued : Bool) (leans : AreLean (alone texts))
    (place m : Standing) (old : List Event) (of : IsRunThrough s h texts (Some m)) (still : IsStill place m) (at : IsAt m old) (lean : IsLean m.state) (earned : Earned m) where
  abbrev here : Course
  here = course_of (with_history s h) place old

  abbrev there : Standing → Course
  there n = course_of (with_history s h) n (events (world_of n.state).trail)

  pauses_so : (x : Halt) (n : Standing) → Goes texts stops how turns (Some m) x (Some n) → IsRunThrough s h texts (Some n) → PausesSo turns here (there n) x
  pauses_so halt.Entered n goes now = tt
  pauses_so halt.AtLine n goes now = tt
  pauses_so halt.Ended n goes now = tt
  pauses_so (halt.Paused t) n goes now =
      let p = enough_turns texts stops how turns m n t goes in
      record {
        took = p.1 ∙ ap (λ k. n.turns - k) still.turns;
        enough = p.0;
        late = λ b lt.
            passed_before t (world_of place.state) (world_of m.state) (world_of n.state).trail (world_at (ending b (with_history s h))).trail still.leads
            (pauses_passed texts stops how turns m t n (world_at (ending b (with_history s h))) leans lean goes (through_leads s h texts n now b lt));
        late_in_all = λ b lt.
            passed_in_all n (world_at (ending b (with_history s h))) (goes_earned texts stops how turns m (halt.Paused t) n leans lean earned goes) (through_leads s h texts n now b lt);
      }

  passes : (x : Halt) (n : Standing) → Goes texts stops how turns (Some m) x (Some n) → IsRunThrough s h texts (Some n) → Passes stops how turns here x (there n)
  passes x n goes now = record {
    same = refl;
    meant = is_meant s h texts n (events (world_of n.state).trail) now (goes_at texts stops how turns m old x n at goes);
    passed = refl;
    halts = λ b lt.
        subst (λ k. HaltsAt (selects stops how k) x old (events_upto b (with_history s h)) (events (world_of n.state).trail)) still.enters
        (goes_halt texts stops how turns m old x n (events_upto b (with_history s h)) at goes (first_events s h texts n now b lt) (λ over. all_events s h texts n now over b lt));
    last = goes_last texts stops how turns m old x n (first_world (with_history s h)) at goes refl (through_comes s h texts n now);
    pauses = pauses_so x n goes now;
  }

  follows : (x : Halt) (n : Standing) → Goes texts stops how turns (Some m) x (Some n) → IsRunThrough s h texts (Some n) → Follows texts (Some n) (Some n) (Some (there n))
  follows x n goes now = record {
    start = s;
    history = h;
    place = n;
    behind = n;
    old = events (world_of n.state).trail;
    known = refl;
    settles = refl;
    same = refl;
    of = now;
    still = still_here n;
    among = goes_at texts stops how turns m old x n at goes;
    lean = goes_lean texts stops how turns m x n leans lean goes;
    earned = goes_earned texts stops how turns m x n leans lean earned goes;
  }

  follows_on : (x : Halt) (n : Standing) → Goes texts stops how turns (Some m) x (Some n) → IsRunThrough s h texts (Some n) → HaltsBehind s h texts x (Some n) → FollowsOn texts (state_after x (Some n)) (left_by x (there n))
  unfolding follows
  follows_on halt.Entered n goes now event = record { follows = follows halt.Entered n goes now; event = event; seen = goes_seen texts stops how turns m old halt.Entered n at goes }
  follows_on halt.AtLine n goes now event = record { follows = follows halt.AtLine n goes now; event = event; seen = goes_seen texts stops how turns m old halt.AtLine n at goes }
  follows_on halt.Ended n goes now event = refl
  follows_on (halt.Paused t) n goes now event = follows (halt.Paused t) n goes now

  says : (x : Halt) (n : Standing) (w : World) (said : List ℕ) → w ≡ world_of n.state → IsRunThrough s h texts (Some n) → going.Says valued x (Some n) w said → Says valued x (there n) said
  says halt.Entered n w said is now p = p ∙ ap (λ v. entered_text v.frames) is
  says halt.AtLine n w said is now p = p ∙ ap (λ v. line_text v.frames) is
  says halt.Ended n w said is now (e, (v, count, end), text) =
      (e, (λ b lt. ends_so (with_history s h) n e v count end (λ x is b lt. ends_as_meant s h texts n x now is b lt) b lt), text ∙ ap (λ u. outcome_text valued e u) is)
  says (halt.Paused t) n w said is now p = p ∙ ap (λ v. stop_text t ended.OutOfSteps v) is

  -- what a go that halted leads to
  abbrev pub LeadsTo : List ℕ → List ℕ → State → Type 0
  LeadsTo front text after = (run : Option Course) × (told : IsTold stops how turns valued here front text run) × FollowsOn texts after run × IsBehind told.h after

  arrives : (x : Halt) (n : Standing) (first : World) (front text : List ℕ) (after : State) → Goes texts stops how turns (Some m) x (Some n) → IsRunThrough s h texts (Some n) → HaltsBehind s h texts x (Some n) → first ≡ world_of m.state
      → Told valued (length (output first.trail)) x (Some n) (front ++ text) → after ≡ state_after x (Some n) → LeadsTo front text after
  arrives x n first front text after goes now event stood told is =
      let w : told.world ≡ world_of n.state = told.stands (world_of n.state) refl in
      let before : output first.trail ≡ output (world_of place.state).trail = ap (λ v. output v.trail) stood ∙ still.written in (
        left_by x (there n),
        record {
          h = x;
          new = there n;
          passes = passes x n goes now;
          said = told.said;
          says = says x n told.world told.said w now told.says;
          whole = told.whole ∙ ap (λ v. on_new_line (drop (length (output first.trail)) (output v.trail)) told.said) w ∙ ap (λ bytes. on_new_line (drop (length bytes) (output (world_of n.state).trail)) told.said) before;
          left = refl;
        },
        subst (λ a. FollowsOn texts a (left_by x (there n))) (sym is) (follows_on x n goes now event),
        (Some n, is),
      )

  unknown : (x : Halt) (first : World) (front text : List ℕ) (after : State) → x ≡ halt.Ended → Told valued (length (output first.trail)) x None (front ++ text) → LeadsTo front text after
  unknown x first front text after is told =
      let e = subst (λ g. going.Says valued g None told.world told.said) is told.says in
      no_end valued e.0 e.1.0 e.1.1 told.world told.said e.1.2 e.2

  comes : (x : Halt) (r : Option Standing) (first : World) (front text : List ℕ) (after : State) → Goes texts stops how turns (Some m) x r → IsRunThrough s h texts r × HaltsBehind s h texts x r → first ≡ world_of m.state
      → Told valued (length (output first.trail)) x r (front ++ text) → after ≡ state_after x r → LeadsTo front text after
  comes x None first front text after goes now stood told is = unknown x first front text after goes told
  comes x (Some n) first front text after goes now stood told is = arrives x n first front text after goes now.0 now.1 stood told is

  pub went : (front text : List ℕ) (after : State) → Went texts stops how turns valued (Some m) front text after → LeadsTo front text after
  went front text after w =
      comes w.stops_at w.new w.first front text after w.goes (goes_through s h texts stops how turns (Some m) w.stops_at w.new w.goes of) (w.stood (world_of m.state) refl) w.told w.follows

-- ---- from the start on

pub begins : (texts : List Text) (key : Key) (stack heap : ℕ) (input : List ℕ) → ((f : LibFun) → callee_of texts key ≡ InLibrary f → ⊥) → Begins (start_of texts key stack heap input) (course_of (with_history (start_of texts key stack heap input) (alone texts)) (started texts key stack heap input) [])
begins texts key stack heap input other =
    let fresh = starts_fresh texts key stack heap input other in
    record {
      start = refl;
      meant = is_meant (start_of texts key stack heap input) (alone texts) texts (started texts key stack heap input) [] (begins_through texts key stack heap input) fresh.0;
      untaken = refl;
      unpassed = refl;
      unwritten = fresh.1;
    }
