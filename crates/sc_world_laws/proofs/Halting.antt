-- A go halts at the first selected event behind the place where it began.
use Rattle.std.proofs.Common.{◌≡◌, ◌⊎◌, inl, inr, ℕ, zero, suc, ◌+◌, ◌*◌, ◌<◌, ◌≤◌, nat_le, Bool, true, false, ◌||◌, if◌then◌else◌, List, [], ◌∷◌, ◌++◌, length, drop, append_assoc, refl, sym, ap, ◌∙◌, subst, arith, Option, Some, None}
use Rattle.std.proofs.lemmas.List.{append-nil}
use Rattle.sc_base.specs.declared.key.Key.{Key}
use Rattle.sc_program.specs.declared.storage.StaticId.{StaticId}
use Rattle.sc_program.specs.declared.storage.StaticId.TheVariants.{Named, Literal}
use Rattle.sc_base.specs.declared.memory.Kind.{Kind}
use Rattle.sc_meaning.specs.World.{World, Frame, Item, Event, Enter, Leave, At, Out, Birth, Put, Name, GoesOut, ComesBack, Happens, pass, passed, on_innermost, events, named_in}
use Rattle.sc_meaning.specs.declared.spot.Spot.{Spot}
use Rattle.sc_meaning.specs.Outcomes.{Outcome, Done, Over, BirthLimit, Ending, and_then, world_after, world_at, went}
use Rattle.sc_meaning.specs.Versions.{Text, Definition, callee_of, object_in, births_of}
use Rattle.sc_meaning.specs.Changes.{born, born_as, born_static, born_unless, born_all, unnamed, filled, filled_all, statics_born, static_contents, contents_size, kind_of}
use Rattle.sc_meaning.specs.Behaviour.{first_world}
use Rattle.sc_meaning.specs.Laws.{Leads}
use Rattle.sc_meaning.proofs.Steps.{passed-append}
use Rattle.sc_meaning.proofs.Trails.{events-append, told}
use Rattle.sc_interp_machine.specs.Runs.{State, Runs, Makes, Answers, Ends, then_goes}
use Rattle.sc_interp_laws.specs.Worlds as course
use Rattle.sc_interp_laws.specs.Events.{IsPrefix}
use Rattle.sc_interp_laws.specs.Inside.{IsInside, Inside, AreHidden}
use Rattle.sc_interp_laws.proofs.Lawfully.{along_here, along_one, along_on}
use Rattle.sc_interp_laws.proofs.Inside.{inside_hidden, hidden_on}
use Rattle.sc_interp.specs.declared.stepped.Shown.{Shown}
use Rattle.sc_interp.specs.declared.stepped.Shown.TheVariants as shown
use Rattle.sc_interp.specs.Steady.{alone, advance}
use Rattle.sc_interp.specs.Shows.{shown as shown_by, entry_shown}
use Rattle.sc_interp.specs.Steps.{is_over}
use Rattle.sc_interp.specs.Ends.{start_of}
use Rattle.sc_interp.proofs.Unchanged.{quiet}
use Rattle.sc_words.specs.declared.stop.StopAt.{StopAt}
use Rattle.sc_words.specs.declared.stop.Event.TheVariants as word
use Rattle.sc_words.specs.declared.stop.Walk.{Walk}
use Rattle.sc_words.specs.declared.stop.Walk.TheVariants.{Cont, Step, Next}
use Rattle.sc_words.specs.Stops.{is_matched}
use Rattle.sc_world.specs.declared.halt.Halt.{Halt}
use Rattle.sc_world.specs.declared.halt.Halt.TheVariants as halt
use Rattle.sc_world.specs.Standing.{Standing, world_of, has_ended}
use Rattle.sc_world.specs.Wants.{Want, walks, halt_if, wanted, else_over, halts, taken, else_paused, rests}
use Rattle.sc_world.specs.Moves.{Silent, moved}
use Rattle.sc_world.specs.Costs.{bytes_touched}
use Rattle.sc_world.specs.Goes.{GoneBy, rests_here, moves_on, after, stepped, seen, with_status, closed, want_of, Goes, entry_next, first_standing, started}
use Rattle.sc_world.proofs.Moves.{Same, moved_after, moved_counted}
use Rattle.sc_world_laws.specs.Halts.{first_of, Free, GoesFree}
use Rattle.sc_world_laws.specs.Told.{walks_to, selects, event_of, happening, Tells, IsFramed, now, IsAt, is_entry, IsFirst, HaltsAt, IsLastAt}
use Rattle.sc_world_laws.proofs.Halts.{free_on, goes_here, goes_on, halts_first, halts_free, bound}
use Rattle.sc_world_laws.proofs.Tells.{step_tells, step_framed, callee_tells, callee_framed, framed_on}

-- ---- one step more

same_world : (s : State) → world_of s ≡ course.world_of s
same_world (Runs doing ss env a cs w) = refl
same_world (Makes t v vs c cs w) = refl
same_world (Answers a cs w) = refl
same_world (Ends e) = refl

told_here : (now : State → List Event) (s t : State) → Tells (now t) (course.world_of s) (course.world_of t) → Tells (now t) (world_of s) (world_of t)
told_here now s t p = (p.0, ap (λ w. w.trail) (same_world t) ∙ p.1 ∙ ap (λ w. w.trail ++ (p.0 ++ happening (now t))) (sym (same_world s)), p.2)

pub step_told : (texts : List Text) (s : State) → IsFramed s → Tells (event_of (shown_by (alone texts) texts s) (world_of (advance (alone texts) texts s)).frames) (world_of s) (world_of (advance (alone texts) texts s))
step_told texts s f =
    let t : State = advance (alone texts) texts s in
    let p = step_tells (alone texts) (quiet texts) texts s f in
    let frames : (course.world_of t).frames ≡ (world_of t).frames = ap (λ w. w.frames) (sym (same_world t)) in
    told_here (λ u. event_of (shown_by (alone texts) texts s) (world_of t).frames) s t
    (subst (λ fs. Tells (event_of (shown_by (alone texts) texts s) fs) (course.world_of s) (course.world_of t)) frames p)

pub step_is_framed : (texts : List Text) (s : State) → IsFramed s → IsFramed (advance (alone texts) texts s)
step_is_framed texts s f = step_framed (alone texts) (quiet texts) texts s f

events_happening : (es : List Event) → events (happening es) ≡ es
events_happening [] = refl
events_happening (e ∷ es) = ap (λ fs. e ∷ fs) (events_happening es)

-- the events behind a step that tells one
told_events : (w v : World) (es : List Event) (p : Tells es w v) → events v.trail ≡ (events w.trail ++ events p.0) ++ es
told_events w v es p =
    ap events p.1 ∙ events-append w.trail (p.0 ++ happening es) ∙ ap (λ fs. events w.trail ++ fs) (events-append p.0 (happening es) ∙ ap (λ fs. events p.0 ++ fs) (events_happening es))
    ∙ sym (append_assoc (events w.trail) (events p.0) es)

told_last : (w v : World) (es : List Event) → Tells es w v → (front : List Item) × (v.trail ≡ front ++ happening es)
told_last w v es p = (w.trail ++ p.0, p.1 ∙ sym (append_assoc w.trail p.0 (happening es)))

one_more_step : (k t b : ℕ) → k ≤ 8 * t → k + 1 ≤ 8 * (t + (1 + b))
one_more_step k t b p = omega (arith, p)

-- where the run stands behind a step
abbrev behind : (texts : List Text) (m : Standing) (old : List Event) → IsAt m old → List Event
behind texts m old p = (old ++ now m) ++ events (step_told texts m.state p.framed).0

step_at : (texts : List Text) (m : Standing) (old : List Event) (p : IsAt m old) → IsAt (stepped texts m) (behind texts m old p)
step_at texts m old p =
    let t : State = advance (alone texts) texts m.state in
    let told = step_told texts m.state p.framed in
    let es : List Event = event_of (shown_by (alone texts) texts m.state) (world_of t).frames in
    record {
      framed = step_framed (alone texts) (quiet texts) texts m.state p.framed;
      passed = told_events (world_of m.state) (world_of t) es told ∙ ap (λ fs. (fs ++ events told.0) ++ es) p.passed;
      last = told_last (world_of m.state) (world_of t) es told;
      counted = one_more_step m.steps m.turns (bytes_touched m.state t) p.counted;
    }

-- where a place stands, one that differs from it in its turns alone stands too
same_at : (m n : Standing) (old : List Event) → Same n m → n.steps ≤ 8 * n.turns → IsAt m old → IsAt n old
same_at m n old e few p = record {
  framed = subst IsFramed (sym e.0) p.framed;
  passed = ap (λ s. events (world_of s).trail) e.0 ∙ p.passed ∙ ap (λ es. old ++ es) (sym same);
  last = (p.last.0, ap (λ s. (world_of s).trail) e.0 ∙ p.last.1 ∙ ap (λ es. p.last.0 ++ happening es) (sym same));
  counted = few;
}
  where
    same : now n ≡ now m
    same = ap (λ x. event_of x (world_of n.state).frames) e.1 ∙ ap (λ s. event_of m.shown (world_of s).frames) e.0

-- ---- what is wanted is what is selected

module _ (stops : List StopAt) (walk : Walk) (since : ℕ) where
  hidden_free : (es : List Event) → AreHidden es → Free (selects stops walk since) es
  hidden_free [] p = refl
  hidden_free (Enter key home ∷ es) p = absurd (cc)
  hidden_free (Leave ∷ es) p = rw (hidden_free es p) refl
  hidden_free (At home line enter ∷ es) p = absurd (cc)
  hidden_free (Out byte ∷ es) p = rw (hidden_free es p) refl

same_walk : (walk : Walk) (since : ℕ) (f : Frame) → walks walk since f ≡ walks_to walk since f.enter
same_walk Cont since f = refl
same_walk Step since f = refl
same_walk Next since f = refl

not_here : (b : Bool) (h : Halt) → halt_if b h ≡ None → b ≡ false
not_here true h p = absurd (cc)
not_here false h p = refl

is_here : (b : Bool) (h g : Halt) → halt_if b h ≡ Some g → (b ≡ true) × (g ≡ h)
is_here true h g p = (refl, cc)
is_here false h g p = absurd (cc)

free_one : (sel : Event → Bool) (e : Event) → sel e ≡ false → Free sel (e ∷ [])
free_one sel e p = rw p refl

-- an event at which a go halts
abbrev pub Chosen : (Event → Bool) → Halt → List Event → Type 0
Chosen sel h es = (e : Event) × (es ≡ e ∷ []) × (sel e ≡ true) × (((h ≡ halt.Entered) × (is_entry e ≡ true)) ⊎ ((h ≡ halt.AtLine) × (is_entry e ≡ false)))

module _ (want : Want) where
  abbrev pub sel : Event → Bool
  sel = selects want.stops want.walk want.since

  line_same : (line : ℕ) (f : Frame) → (is_matched want.stops (word.At f.home line) || walks want.walk want.since f) ≡ sel (At f.home line f.enter)
  line_same line f = ap (λ b. is_matched want.stops (word.At f.home line) || b) (same_walk want.walk want.since f)

  unwanted_free : (s : Shown) (fs : List Frame) → wanted want s fs ≡ None → Free sel (event_of s fs)
  unwanted_free shown.Nothing fs p = refl
  unwanted_free (shown.Line line) [] p = refl
  unwanted_free (shown.Line line) (f ∷ fs) p =
      free_one sel (At f.home line f.enter) (sym (line_same line f) ∙ not_here (is_matched want.stops (word.At f.home line) || walks want.walk want.since f) halt.AtLine p)
  unwanted_free shown.Entered [] p = refl
  unwanted_free shown.Entered (f ∷ fs) p = free_one sel (Enter f.key f.home) (not_here (is_matched want.stops (word.Enter f.key f.home)) halt.Entered p)

  pub wanted_chosen : (s : Shown) (fs : List Frame) (h : Halt) → wanted want s fs ≡ Some h → Chosen sel h (event_of s fs)
  wanted_chosen shown.Nothing fs h p = absurd (cc)
  wanted_chosen (shown.Line line) [] h p = absurd (cc)
  wanted_chosen (shown.Line line) (f ∷ fs) h p =
      let q = is_here (is_matched want.stops (word.At f.home line) || walks want.walk want.since f) halt.AtLine h p in
      (At f.home line f.enter, refl, sym (line_same line f) ∙ q.0, inr (q.1, refl))
  wanted_chosen shown.Entered [] h p = absurd (cc)
  wanted_chosen shown.Entered (f ∷ fs) h p =
      let q = is_here (is_matched want.stops (word.Enter f.key f.home)) halt.Entered h p in
      (Enter f.key f.home, refl, q.0, inl (q.1, refl))

  -- ---- a go

  -- why a go ends at a place: what halts it there, or that nothing does and its turns were taken
  abbrev pub Why : Halt → Standing → Type 0
  Why h m = (halts want m ≡ Some h) ⊎ ((halts want m ≡ None) × (h ≡ halt.Paused (taken want m)))

  why_paused : (b : Bool) (m : Standing) (h : Halt) → halts want m ≡ None → halt_if b (halt.Paused (taken want m)) ≡ Some h → Why h m
  why_paused true m h e p = inr (e, cc)
  why_paused false m h e p = absurd (cc)

  pub why_rests : (o : Option Halt) (m : Standing) (h : Halt) → halts want m ≡ o → else_paused o want.turns (taken want m) ≡ Some h → Why h m
  why_rests (Some g) m h e p = inl (e ∙ p)
  why_rests None m h e p = why_paused (nat_le want.turns (taken want m)) m h e p

  pub over_none : (o : Option Halt) (b : Bool) → else_over o b ≡ None → o ≡ None
  over_none (Some h) b p = absurd (cc)
  over_none None b p = refl

  pub paused_none : (o : Option Halt) (turns took : ℕ) → else_paused o turns took ≡ None → o ≡ None
  paused_none (Some h) turns took p = absurd (cc)
  paused_none None turns took p = refl

  rests_free : (m : Standing) → rests want m ≡ None → Free sel (now m)
  rests_free m p =
      unwanted_free m.shown (world_of m.state).frames
      (over_none (wanted want m.shown (world_of m.state).frames) (is_over m.state) (paused_none (halts want m) want.turns (taken want m) p))

  -- the last place of a go, and the events that were looked at before it
  abbrev pub IsLast : List Event → Halt → Standing → Type 0
  IsLast old h left = (last : Standing) × (past : List Event) × (left ≡ seen last) × IsAt last past × GoesFree sel old past × Why h last

  module _ (texts : List Text) where
    step_free : (m : Standing) (old : List Event) (p : IsAt m old) → Free sel (now m) → GoesFree sel old (behind texts m old p)
    step_free m old p f =
        let told = step_told texts m.state p.framed in
        (now m ++ events told.0, append_assoc old (now m) (events told.0), free_on Event sel (now m) (events told.0) f (hidden_free want.stops want.walk want.since (events told.0) told.2))

    silent_free : (m : Standing) → m.shown ≡ shown.Nothing → Free sel (now m)
    silent_free m e = ap (λ x. first_of sel (event_of x (world_of m.state).frames)) e

    -- behind the steps of a move
    steps_at : (k : ℕ) (m : Standing) (old : List Event) → IsAt m old → Free sel (now m) → Silent k texts m.state → (past : List Event) × IsAt (after (suc k) texts m) past × GoesFree sel old past
    steps_at zero m old p f s = (behind texts m old p, step_at texts m old p, step_free m old p f)
    steps_at (suc k) m old p f s =
        let n : Standing = stepped texts m in
        let q = steps_at k n (behind texts m old p) (step_at texts m old p) (silent_free n s.0) s.2 in
        (q.0, q.1, goes_on Event sel old (behind texts m old p) q.0 (step_free m old p f) q.2)

    move_at : (k : ℕ) (m : Standing) (old : List Event) → k ≤ 7 → IsAt m old → Free sel (now m) → Silent k texts m.state → (past : List Event) × IsAt (moved k texts m) past × GoesFree sel old past
    move_at k m old small p f s =
        let q = steps_at k m old p f s in
        (q.0, same_at (after (suc k) texts m) (moved k texts m) q.0 (moved_after texts k m) (moved_counted texts k m small p.counted) q.1, q.2)

    pub go_last : (h : Halt) (left m : Standing) (old : List Event) → IsAt m old → GoneBy texts want h left m → IsLast old h left
    go_last h left x old p (rests_here m e at) = (m, old, at, p, goes_here Event sel old, why_rests (halts want m) m h refl e)
    go_last h left x old p (moves_on m k small e silent rest) =
        let q = move_at k m old small p (rests_free m e) silent in
        let l = go_last h left (moved k texts m) q.0 q.1 rest in
        (l.0, l.1, l.2, l.3, goes_on Event sel old q.0 l.1 q.2 l.4, l.5)

-- ---- behind a go

-- where `main` came back a mark is put behind the trail, and no event
status_events : (s : State) → events (world_of (with_status s)).trail ≡ events (world_of s).trail
status_events (Runs doing ss env a cs w) = refl
status_events (Makes t v vs c cs w) = refl
status_events (Answers a [] w) = events-append w.trail (ComesBack ∷ []) ∙ append-nil (events w.trail)
status_events (Answers a (c ∷ cs) w) = refl
status_events (Ends e) = refl

status_framed : (s : State) → IsFramed s → IsFramed (with_status s)
status_framed (Runs doing ss env a cs w) p = p
status_framed (Makes t v vs c cs w) p = p
status_framed (Answers a [] w) p = tt
status_framed (Answers a (c ∷ cs) w) p = p
status_framed (Ends e) p = tt

status_ended : (s : State) → is_over s ≡ true → has_ended (with_status s) ≡ true
status_ended (Runs doing ss env a cs w) p = absurd (cc)
status_ended (Makes t v vs c cs w) p = absurd (cc)
status_ended (Answers a [] w) p = refl
status_ended (Answers a (c ∷ cs) w) p = absurd (cc)
status_ended (Ends e) p = refl

closed_events : (m : Standing) → events (world_of (closed (seen m)).state).trail ≡ events (world_of m.state).trail
closed_events m = status_events m.state

closed_at : (m : Standing) (old : List Event) → IsAt m old → IsAt (closed (seen m)) (events (world_of (closed (seen m)).state).trail)
closed_at m old p =
    let n : Standing = closed (seen m) in
    let t : List Item = (world_of n.state).trail in
    record {
      framed = status_framed m.state p.framed;
      passed = sym (append-nil (events t));
      last = (t, sym (append-nil t));
      counted = p.counted;
    }

pub over_ended : (o : Option Halt) (b : Bool) (h : Halt) → else_over o b ≡ Some h → (o ≡ Some h) ⊎ ((o ≡ None) × (b ≡ true) × (h ≡ halt.Ended))
over_ended (Some g) b h p = inl p
over_ended None true h p = inr (refl, refl, cc)
over_ended None false h p = absurd (cc)

module _ (want : Want) (old past : List Event) (last : Standing) (n : Standing) (all : List Event)
    (here : IsAt last past) (free : GoesFree (sel want) old past) (is : events (world_of n.state).trail ≡ past ++ now last) (prefix : IsPrefix (events (world_of n.state).trail) all) where
  abbrev new : List Event
  new = events (world_of n.state).trail

  split_new : new ≡ old ++ (free.0 ++ now last)
  split_new = is ∙ ap (λ es. es ++ now last) free.1 ∙ append_assoc old free.0 (now last)

  first_there : (entry : Bool) (e : Event) → now last ≡ e ∷ [] → sel want e ≡ true → is_entry e ≡ entry → IsFirst (sel want) entry old all new
  first_there entry e one chosen kind =
      let split : new ≡ old ++ (free.0 ++ e ∷ []) = split_new ∙ ap (λ es. old ++ (free.0 ++ es)) one in
      let q = halts_first Event (sel want) old free.0 e new all prefix.0 split prefix.1 free.2 chosen in
      (suc (length free.0), q.0, q.1, (old ++ free.0, e, split ∙ sym (append_assoc old free.0 (e ∷ [])), kind))

  chosen_there : (h : Halt) → Chosen (sel want) h (now last) → HaltsAt (sel want) h old all new
  chosen_there h (e, one, chosen, inl (kind, entry)) = subst (λ g. HaltsAt (sel want) g old all new) (sym kind) (first_there true e one chosen entry)
  chosen_there h (e, one, chosen, inr (kind, line)) = subst (λ g. HaltsAt (sel want) g old all new) (sym kind) (first_there false e one chosen line)

  free_there : Free (sel want) (now last) → Free (sel want) (drop (length old) new)
  free_there f = halts_free Event (sel want) old (free.0 ++ now last) new split_new (free_on Event (sel want) free.0 (now last) free.2 f)

  ended_there : (h : Halt) → h ≡ halt.Ended → Free (sel want) (now last) → new ≡ all → HaltsAt (sel want) h old all new
  ended_there h e f whole = subst (λ g. HaltsAt (sel want) g old all new) (sym e) (whole, subst (λ es. Free (sel want) (drop (length old) es)) whole (free_there f))

  paused_there : (h : Halt) (t : ℕ) → h ≡ halt.Paused t → Free (sel want) (now last) → HaltsAt (sel want) h old all new
  paused_there h t e f = subst (λ g. HaltsAt (sel want) g old all new) (sym e) (prefix, free_there f)

  halted_there : (h : Halt) → (wanted want last.shown (world_of last.state).frames ≡ Some h) ⊎ ((wanted want last.shown (world_of last.state).frames ≡ None) × (is_over last.state ≡ true) × (h ≡ halt.Ended)) → (is_over last.state ≡ true → new ≡ all) → HaltsAt (sel want) h old all new
  halted_there h (inl w) over = chosen_there h (wanted_chosen want last.shown (world_of last.state).frames h w)
  halted_there h (inr (w, b, e)) over = ended_there h e (unwanted_free want last.shown (world_of last.state).frames w) (over b)

  why_there : (h : Halt) → Why want h last → (is_over last.state ≡ true → new ≡ all) → HaltsAt (sel want) h old all new
  why_there h (inl w) over = halted_there h (over_ended (wanted want last.shown (world_of last.state).frames) (is_over last.state) h w) over
  why_there h (inr (none, e)) over =
      paused_there h (taken want last) e (unwanted_free want last.shown (world_of last.state).frames (over_none want (wanted want last.shown (world_of last.state).frames) (is_over last.state) none))

-- the state behind the last place of a go
pub left_state : (last left n : Standing) → left ≡ seen last → closed left ≡ n → closed (seen last) ≡ n
left_state last left n e c = ap closed (sym e) ∙ c

pub goes_at : (texts : List Text) (stops : List StopAt) (walk : Walk) (turns : ℕ) (m : Standing) (old : List Event) (h : Halt) (n : Standing) → IsAt m old → Goes texts stops walk turns (Some m) h (Some n) → IsAt n (events (world_of n.state).trail)
goes_at texts stops walk turns m old h n p g =
    let want : Want = want_of stops walk turns m in
    let l = go_last want texts h g.0 m old p g.1 in
    subst (λ k. IsAt k (events (world_of k.state).trail)) (left_state l.0 g.0 n l.2 g.2) (closed_at l.0 l.1 l.3)

pub goes_halt : (texts : List Text) (stops : List StopAt) (walk : Walk) (turns : ℕ) (m : Standing) (old : List Event) (h : Halt) (n : Standing) (all : List Event) → IsAt m old → Goes texts stops walk turns (Some m) h (Some n)
    → IsPrefix (events (world_of n.state).trail) all → (has_ended n.state ≡ true → events (world_of n.state).trail ≡ all) → HaltsAt (selects stops walk (world_of m.state).enters) h old all (events (world_of n.state).trail)
goes_halt texts stops walk turns m old h n all p g first whole =
    let want : Want = want_of stops walk turns m in
    let l = go_last want texts h g.0 m old p g.1 in
    let same : closed (seen l.0) ≡ n = left_state l.0 g.0 n l.2 g.2 in
    let passed : events (world_of n.state).trail ≡ l.1 ++ now l.0 = ap (λ k. events (world_of k.state).trail) (sym same) ∙ closed_events l.0 ∙ l.3.passed in
    let over : is_over l.0.state ≡ true → events (world_of n.state).trail ≡ all = λ o. whole (ap (λ k. has_ended k.state) (sym same) ∙ status_ended l.0.state o) in
    why_there want old l.1 l.0 n all l.3 l.4 passed first h l.5 over

-- ---- where a go halts at an event, it is the last thing that happened

no_event : (x : Shown) (fs : List Frame) (e : Event) → length fs ≡ 0 → event_of x fs ≡ e ∷ [] → ⊥
no_event shown.Nothing fs e p q = cc
no_event (shown.Line line) [] e p q = cc
no_event (shown.Line line) (f ∷ fs) e p q = cc
no_event shown.Entered [] e p q = cc
no_event shown.Entered (f ∷ fs) e p q = cc

-- a call is active then, so nothing is put behind the trail
status_world : (s : State) (x : Shown) (e : Event) → IsFramed s → event_of x (world_of s).frames ≡ e ∷ [] → world_of (with_status s) ≡ world_of s
status_world (Runs doing ss env a cs w) x e p q = refl
status_world (Makes t v vs c cs w) x e p q = refl
status_world (Answers a [] w) x e p q = absurd (no_event x w.frames e p q)
status_world (Answers a (c ∷ cs) w) x e p q = refl
status_world (Ends end) x e p q = refl

not_both : false ≡ true → ⊥
not_both p = cc

abbrev is_entry_first : List Event → Bool
is_entry_first [] = true
is_entry_first (e ∷ es) = is_entry e

-- an event that was shown is one of the innermost call
entry_innermost : (x : Shown) (fs : List Frame) (e : Event) → event_of x fs ≡ e ∷ [] → is_entry e ≡ true → (f : Frame) × (callers : List Frame) × (fs ≡ f ∷ callers) × (event_of x fs ≡ Enter f.key f.home ∷ [])
entry_innermost shown.Nothing fs e p q = absurd (cc)
entry_innermost (shown.Line line) [] e p q = absurd (cc)
entry_innermost (shown.Line line) (f ∷ fs) e p q = absurd (not_both (ap is_entry_first p ∙ q))
entry_innermost shown.Entered [] e p q = absurd (cc)
entry_innermost shown.Entered (f ∷ fs) e p q = (f, fs, refl, refl)

line_innermost : (x : Shown) (fs : List Frame) (e : Event) → event_of x fs ≡ e ∷ [] → is_entry e ≡ false → (f : Frame) × (callers : List Frame) × (line : ℕ) × (fs ≡ f ∷ callers) × (event_of x fs ≡ At f.home line f.enter ∷ [])
line_innermost shown.Nothing fs e p q = absurd (cc)
line_innermost (shown.Line line) [] e p q = absurd (cc)
line_innermost (shown.Line line) (f ∷ fs) e p q = (f, fs, line, refl, refl)
line_innermost shown.Entered [] e p q = absurd (cc)
line_innermost shown.Entered (f ∷ fs) e p q = absurd (not_both (sym (ap is_entry_first p ∙ q)))

-- a world whose last event came to a line has it in its innermost call
abbrev line_first : List Frame → ℕ
line_first [] = 0
line_first (f ∷ fs) = f.line

line_set : (line : ℕ) (fs : List Frame) (f : Frame) (callers : List Frame) → on_innermost (λ g. record g { line = line }) fs ≡ f ∷ callers → f.line ≡ line
line_set line [] f callers p = absurd (cc)
line_set line (g ∷ gs) f callers p = sym (ap line_first p)

line_of_last : (v w : World) (front : List Item) (f : Frame) (callers : List Frame) (home : List ℕ) (line enter : ℕ) → v.trail ≡ [] → Leads v w → w.frames ≡ f ∷ callers → w.trail ≡ front ++ Happens (At home line enter) ∷ [] → f.line ≡ line
line_of_last v w front f callers home line enter none leads frames last =
    let whole : w ≡ passed (front ++ Happens (At home line enter) ∷ []) v = told v w leads none ∙ ap (λ is. passed is v) last in
    let came : w ≡ pass (Happens (At home line enter)) (passed front v) = whole ∙ passed-append front (Happens (At home line enter) ∷ []) v in
    line_set line (passed front v).frames f callers (sym (ap (λ u. u.frames) came) ∙ frames)

-- a go does not halt at an event for another reason
module _ (want : Want) (last : Standing) where
  chosen_event : (h : Halt) → (h ≡ halt.Ended → ⊥) → ((t : ℕ) → h ≡ halt.Paused t → ⊥) → Why want h last → Chosen (sel want) h (now last)
  chosen_event h over paused (inl w) = chosen (over_ended (wanted want last.shown (world_of last.state).frames) (is_over last.state) h w)
    where
      chosen : (wanted want last.shown (world_of last.state).frames ≡ Some h) ⊎ ((wanted want last.shown (world_of last.state).frames ≡ None) × (is_over last.state ≡ true) × (h ≡ halt.Ended)) → Chosen (sel want) h (now last)
      chosen (inl p) = wanted_chosen want last.shown (world_of last.state).frames h p
      chosen (inr (none, o, e)) = absurd (over e)
  chosen_event h over paused (inr (none, e)) = absurd (paused (taken want last) e)

-- the last place of a go, and the world behind it
module _ (want : Want) (last : Standing) (past : List Event) (here : IsAt last past) where
  abbrev end : World
  end = world_of (closed (seen last)).state

  same_end : (e : Event) → now last ≡ e ∷ [] → end ≡ world_of last.state
  same_end e one = status_world last.state last.shown e here.framed one

  last_trail : (e e' : Event) → now last ≡ e ∷ [] → now last ≡ e' ∷ [] → end.trail ≡ here.last.0 ++ Happens e' ∷ []
  last_trail e e' one it = ap (λ w. w.trail) (same_end e one) ∙ here.last.1 ∙ ap (λ es. here.last.0 ++ happening es) it

  entered_there : Chosen (sel want) halt.Entered (now last) → IsLastAt halt.Entered end
  entered_there (e, one, chosen, inl (kind, entry)) =
      let p = entry_innermost last.shown (world_of last.state).frames e one entry in
      (here.last.0, p.0, p.1, ap (λ w. w.frames) (same_end e one) ∙ p.2, last_trail e (Enter p.0.key p.0.home) one p.3)
  entered_there (e, one, chosen, inr (kind, line)) = absurd (cc)

  line_there : (v : World) → v.trail ≡ [] → Leads v end → Chosen (sel want) halt.AtLine (now last) → IsLastAt halt.AtLine end
  line_there v none leads (e, one, chosen, inl (kind, entry)) = absurd (cc)
  line_there v none leads (e, one, chosen, inr (kind, line)) =
      let p = line_innermost last.shown (world_of last.state).frames e one line in
      let f : Frame = p.0 in
      let frames : end.frames ≡ f ∷ p.1 = ap (λ w. w.frames) (same_end e one) ∙ p.3 in
      let trail : end.trail ≡ here.last.0 ++ Happens (At f.home p.2 f.enter) ∷ [] = last_trail e (At f.home p.2 f.enter) one p.4 in
      let same : f.line ≡ p.2 = line_of_last v end here.last.0 f p.1 f.home p.2 f.enter none leads frames trail in
      (here.last.0, f, p.1, frames, trail ∙ ap (λ n. here.last.0 ++ Happens (At f.home n f.enter) ∷ []) (sym same))

  last_there : (v : World) (h : Halt) → v.trail ≡ [] → Leads v end → Why want h last → IsLastAt h end
  last_there v halt.Entered none leads why = entered_there (chosen_event want last halt.Entered (λ e. cc) (λ t e. cc) why)
  last_there v halt.AtLine none leads why = line_there v none leads (chosen_event want last halt.AtLine (λ e. cc) (λ t e. cc) why)
  last_there v halt.Ended none leads why = tt
  last_there v (halt.Paused t) none leads why = tt

-- what was shown was looked at
pub goes_seen : (texts : List Text) (stops : List StopAt) (walk : Walk) (turns : ℕ) (m : Standing) (old : List Event) (h : Halt) (n : Standing) → IsAt m old → Goes texts stops walk turns (Some m) h (Some n) → now n ≡ []
goes_seen texts stops walk turns m old h n p g =
    let want : Want = want_of stops walk turns m in
    let l = go_last want texts h g.0 m old p g.1 in
    subst (λ k. now k ≡ []) (left_state l.0 g.0 n l.2 g.2) refl

pub goes_last : (texts : List Text) (stops : List StopAt) (walk : Walk) (turns : ℕ) (m : Standing) (old : List Event) (h : Halt) (n : Standing) (v : World) → IsAt m old → Goes texts stops walk turns (Some m) h (Some n) → v.trail ≡ [] → Leads v (world_of n.state) → IsLastAt h (world_of n.state)
goes_last texts stops walk turns m old h n v p g none leads =
    let want : Want = want_of stops walk turns m in
    let l = go_last want texts h g.0 m old p g.1 in
    let same : closed (seen l.0) ≡ n = left_state l.0 g.0 n l.2 g.2 in
    subst (λ k. IsLastAt h (world_of k.state)) same (last_there want l.0 l.1 l.3 v h none (subst (λ k. Leads v (world_of k.state)) (sym same) leads) l.5)

pub turns_bound : (m : Standing) (old : List Event) (nodes : ℕ) → IsAt m old → m.steps < 8 * (m.turns + 1) * (nodes + 1)
turns_bound m old nodes p = bound m.steps m.turns nodes p.counted

-- ---- the start

born_inside : (size : ℕ) (kind : Kind) (at : Spot) (w : World) → Inside w (world_after (born size kind at w))
born_inside size kind at w = go (nat_le 4000000000 (length w.objects))
  where
    go : (b : Bool) → Inside w (world_after (if b then Over (BirthLimit w) else Done (length w.objects + 1) (pass (Birth size kind at) w)))
    go true = along_here IsInside w
    go false = along_one IsInside (Birth size kind at) w refl

as_inside : (id : StaticId) (d : Option Definition) (w : World) → Inside w (world_after (born_as id d w))
as_inside id None w = born_inside _ _ _ w
as_inside id (Some d) w = born_inside (contents_size d.object.init) (kind_of d.object.constant) _ w

static_inside : (texts : List Text) (id : StaticId) (w : World) → Inside w (world_after (born_static texts id w))
static_inside texts (Named key) w = as_inside (Named key) (object_in texts key) w
static_inside texts (Literal home bytes) w = born_inside _ _ _ w

then_inside : {A B : Type 0} (w : World) (r : Outcome A) (f : A → World → Outcome B) → Inside w (world_after r) → ((a : A) (v : World) → Inside v (world_after (f a v))) → Inside w (world_after (and_then r f))
then_inside w (Done a v) f l q = along_on IsInside w v (world_after (f a v)) l (q a v)
then_inside w (Over e) f l q = l

unless_inside : (texts : List Text) (id : StaticId) (o : Option ℕ) (w : World) → Inside w (world_after (born_unless texts id o w))
unless_inside texts id (Some o) w = along_here IsInside w
unless_inside texts id None w = then_inside w (born_static texts id w) (λ o v. went (pass (Name id o) v)) (static_inside texts id w) (λ o v. along_one IsInside (Name id o) v refl)

all_inside : (texts : List Text) (ids : List StaticId) (w : World) → Inside w (world_after (born_all texts ids w))
all_inside texts [] w = along_here IsInside w
all_inside texts (id ∷ ids) w = then_inside w (born_unless texts id (named_in w.names id) w) (λ x v. born_all texts ids v) (unless_inside texts id (named_in w.names id) w) (λ x v. all_inside texts ids v)

filled_inside : (texts : List Text) (id : StaticId) (o : Option ℕ) (w : World) → Inside w (filled texts id o w)
filled_inside texts id None w = along_here IsInside w
filled_inside texts id (Some o) w = along_one IsInside (Put o 0 (static_contents texts w id)) w refl

fills_inside : (texts : List Text) (ids : List StaticId) (w : World) → Inside w (filled_all texts ids w)
fills_inside texts [] w = along_here IsInside w
fills_inside texts (id ∷ ids) w =
    let v : World = filled texts id (named_in w.names id) w in
    along_on IsInside w v (filled_all texts ids v) (filled_inside texts id (named_in w.names id) w) (fills_inside texts ids v)

statics_inside : (texts : List Text) (w : World) → Inside w (world_after (statics_born texts w))
statics_inside texts w =
    let ids : List StaticId = unnamed w.names (births_of texts) in
    then_inside w (born_all texts ids w) (λ x v. went (filled_all texts ids v)) (all_inside texts ids w) (λ x v. fills_inside texts ids v)

-- where a run stands at its start: nothing was looked at, and nothing was told but that `main` is entered
abbrev pub StartsAt : State → Type 0
StartsAt s = (old : List Event) × IsAt (first_standing s) old × AreHidden old

hidden_start : (w born : World) (p : Inside w born) → events w.trail ≡ [] → AreHidden (events (pass GoesOut born).trail)
hidden_start w born p e =
    let whole : events (pass GoesOut born).trail ≡ events p.0 =
    events-append born.trail (GoesOut ∷ []) ∙ append-nil (events born.trail) ∙ (inside_hidden w born p).0 ∙ ap (λ es. es ++ events p.0) e in
    subst AreHidden (sym whole) (inside_hidden w born p).1

entry_starts : (texts : List Text) (key : Key) (w born : World) → Inside w born → events w.trail ≡ [] → length w.frames ≡ 0 → StartsAt (entry_next texts key [] born)
entry_starts texts key w born p e none =
    let v : World = pass GoesOut born in
    let s : State = entry_next texts key [] born in
    let es : List Event = event_of (entry_shown s) (world_of s).frames in
    let frames : (course.world_of s).frames ≡ (world_of s).frames = ap (λ u. u.frames) (sym (same_world s)) in
    let there : Tells es v (course.world_of s) = subst (λ fs. Tells (event_of (entry_shown s) fs) v (course.world_of s)) frames (callee_tells (alone texts) (quiet texts) texts key [] (callee_of texts key) [] v) in
    let told : Tells es v (world_of s) = subst (λ u. Tells es v u) (sym (same_world s)) there in (
      events v.trail ++ events told.0,
      record {
        framed = callee_framed (alone texts) (quiet texts) texts key [] (callee_of texts key) [] v (framed_on 0 w born p none);
        passed = told_events v (world_of s) es told;
        last = told_last v (world_of s) es told;
        counted = omega arith;
      },
      hidden_on (events v.trail) (events told.0) (hidden_start w born p e) told.2,
    )

over_starts : (w : World) (end : Ending) → Inside w (world_at end) → events w.trail ≡ [] → StartsAt (Ends end)
over_starts w end p e =
    let t : List Item = (world_at end).trail in (
      events t,
      record { framed = tt; passed = sym (append-nil (events t)); last = (t, sym (append-nil t)); counted = omega arith },
      subst AreHidden (sym ((inside_hidden w (world_at end) p).0 ∙ ap (λ es. es ++ events p.0) e)) (inside_hidden w (world_at end) p).1,
    )

from_starts : (texts : List Text) (key : Key) (w : World) (r : Outcome (Unit {0})) → Inside w (world_after r) → events w.trail ≡ [] → length w.frames ≡ 0 → StartsAt (then_goes r (λ _ born. entry_next texts key [] born))
from_starts texts key w (Done _ born) p e none = entry_starts texts key w born p e none
from_starts texts key w (Over end) p e none = over_starts w end p e

pub run_starts : (texts : List Text) (key : Key) (stack heap : ℕ) (input : List ℕ) → (old : List Event) × IsAt (started texts key stack heap input) old × AreHidden old
run_starts texts key stack heap input =
    let w : World = first_world (start_of texts key stack heap input) in
    from_starts texts key w (statics_born texts w) (statics_inside texts w) refl refl
