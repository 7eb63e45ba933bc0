-- A go that sends while it goes on, as the code comes to it.
use Rattle.std.proofs.Common.{◌≡◌, ◌≤◌, ◌<◌, ◌+◌, ◌-◌, inl, inr, ℕ, zero, suc, Bool, true, false, List, [], ◌∷◌, ◌++◌, length, length-append, drop, take, Option, Some, None, Result, Ok, Err, MatchResult, refl, ap, sym, subst, ◌∙◌, arith}
use Rattle.std.proofs.lemmas.List.{append_cancel_right, length-drop, take-append-drop}
use Rattle.sc_base.specs.declared.key.Key.{Key}
use Rattle.sc_meaning.specs.Behaviour.{Start, main_key}
use Rattle.sc_meaning.specs.Versions.{Text}
use Rattle.sc_meaning.specs.World.{World}
use Rattle.sc_interp_access.specs.declared.ended.Ended.{Ended}
use Rattle.sc_interp_access.specs.declared.ended.Ended.TheVariants as ended
use Rattle.sc_interp_world.specs.Outputs.{output}
use Rattle.sc_words.specs.declared.answer.Answer.{Answer}
use Rattle.sc_words.specs.declared.answer.Answer.TheVariants as answer
use Rattle.sc_words.specs.declared.command.Command.{Command}
use Rattle.sc_words.specs.declared.command.Command.TheVariants as command
use Rattle.sc_words.specs.declared.denied.Denied.{Denied}
use Rattle.sc_words.specs.declared.denied.Denied.TheVariants as denied
use Rattle.sc_words.specs.declared.stop.StopAt.{StopAt}
use Rattle.sc_words.specs.declared.stop.Walk.{Walk}
use Rattle.sc_words.specs.declared.stop.Walk.TheVariants as walk
use Rattle.sc_world.specs.declared.halt.Halt.{Halt}
use Rattle.sc_world.specs.declared.halt.Halt.TheVariants as halt
use Rattle.sc_world.specs.Goes.{Goes, started, want_of}
use Rattle.sc_interp.specs.Ends.{start_of}
use Rattle.sc_world.specs.Meant.{IsRunOf}
use Rattle.sc_world.specs.Posts.{Posted}
use Rattle.sc_world.specs.Sends.{LeavesFew, Sends, SendsSome, written}
use Rattle.sc_world.proofs.Courses.{goes_somewhere}
use Rattle.sc_world.proofs.Sending.{sends_some}
use Rattle.sc_world.specs.Standing.{Standing, EndedSo, is_ended, world_in, world_of}
use Rattle.sc_world.proofs.Posting.{appends_none}
use Rattle.sc_session.specs.declared.going.Lost.{Lost}
use Rattle.sc_session.specs.declared.going.Lost.TheVariants as lost
use Rattle.sc_session.specs.declared.state.State.{State}
use Rattle.sc_session.specs.declared.state.State.TheVariants as state
use Rattle.sc_outside.specs.Stored.{FileMap}
use Rattle.sc_session_forms.specs.Forms.{are_sources}
use Rattle.sc_world.specs.declared.post.Unsent.{Unsent}
use Rattle.sc_world.specs.declared.post.Unsent.TheVariants as unsent
use Rattle.sc_session.specs.Going.{IsWorldOf, Says, Told, ToldBehind, KeepsFew, Went, Gains, stays_in_line, is_told, IsKnown, cut_off, IsCutOff, IsUntold, Loses, IsFirstOf, RunsIn, IsGivenUp, IsGoing, TakesRun, WalkFirst, WalksOut, BeginFirst, BeginsSo, BeginsOut, state_after, run_of, in_state, has_main, IsInput, InputDenied}
use Rattle.sc_session.specs.Mixing.{WalksBy, is_mixed}
use Rattle.sc_session.specs.Asking.{AsksFor, deed_command, go_command, walk_command}
use Rattle.sc_session.specs.Changing.{caught_up, settled}
use Rattle.sc_session.specs.Modules.{texts}
use Rattle.sc_session.specs.Plain.{Plain}
use Rattle.sc_session.specs.Valued.{going_stops, going_texts, is_valued}
use Rattle.sc_session.specs.States.{refusal_of}
use Rattle.sc_session.specs.Transcript.{Moment, moment, asked, is_go, AnswersTo, BreaksOff, Carried, Decides, Does, GoesOut, GoFirst, RunDenied, RunFirst, Runs, RunsOut, RunsOutBy, Speaks, WalksOutBy, WritesFirst}
use Rattle.sc_session.proofs.GoingLemmas.{walked, begins}

-- nothing is said of the end of a run of which nothing is known
none_says : (valued : Bool) (w : World) (said : List ℕ) → Says valued halt.Ended None w said → ⊥
none_says valued w said (ended.Exit status, p, told) = absurd (cc)
none_says valued w said (ended.Undefined b, p, told) = absurd (cc)
none_says valued w said (ended.StackFull key, p, told) = absurd (cc)
none_says valued w said (ended.BirthLimit, p, told) = absurd (cc)
none_says true w said (ended.OutOfSteps, p, told) = absurd (cc)
none_says false w said (ended.OutOfSteps, p, told) = absurd (cc)
none_says true w said (ended.NoRoom, p, told) = absurd (cc)
none_says false w said (ended.NoRoom, p, told) = absurd (cc)

lost_says : (valued : Bool) (h : Halt) (r : Option Standing) (w : World) (said : List ℕ) → h ≡ halt.Ended → r ≡ None → Says valued h r w said → ⊥
lost_says valued h r w said p q says = none_says valued w said (subst (λ h. Says valued h None w said) p (subst (λ r. Says valued h r w said) q says))

-- what was posted, by its places
posted_length : (from to : ℕ) (bytes front : List ℕ) → from ≤ to → to ≤ length bytes → drop from bytes ≡ front ++ drop to bytes → to ≡ from + length front
posted_length from to bytes front order inside whole =
    let all : length bytes - from ≡ length front + (length bytes - to) =
    sym (length-drop from bytes) ∙ ap (λ xs. length xs) whole ∙ length-append front (drop to bytes) ∙ ap (λ n. length front + n) (length-drop to bytes) in
    omega (arith, order, inside, all)

posted_bytes : (from to : ℕ) (bytes front : List ℕ) → from ≤ to → to ≤ length bytes → drop from bytes ≡ front ++ drop to bytes → drop from (take to bytes) ≡ front
posted_bytes zero to bytes front order inside whole = append_cancel_right (take to bytes) front (drop to bytes) (take-append-drop to bytes ∙ whole)
posted_bytes (suc from) to [] front order inside whole = absurd (omega (arith, order, inside))
posted_bytes (suc from) zero (b ∷ bytes) front order inside whole = absurd (omega (arith, order))
posted_bytes (suc from) (suc to) (b ∷ bytes) front order inside whole =
    posted_bytes from to bytes front (omega (arith, order)) (omega (arith, inside)) whole

no_bytes : (front : List ℕ) → length front ≡ 0 → front ≡ []
no_bytes [] p = refl
no_bytes (b ∷ front) p = absurd (omega (arith, p))

abbrev or_world : World → Option World → World
or_world v None = v
or_world v (Some w) = w

same_world : (v w : World) → Some v ≡ Some w → v ≡ w
same_world v w p = ap (or_world v) p

not_none : (n : Standing) → Some n ≡ None → ⊥
not_none n p = absurd (cc)

-- where a go halts before the run is over, few bytes did not go out
few_behind : (h : Halt) (n : Standing) (before sent : ℕ) (front : List ℕ) → sent ≡ before + length front → LeavesFew h sent (Some n) → KeepsFew h before front (Some n)
few_behind h n before sent front at few goes_on w is =
    let less : length (written n) < sent + 4096 = few goes_on in
    let here : length (output (world_of n.state).trail) < before + length front + 4096 = omega (arith, less, at) in
    subst (λ (v : World). length (output v.trail) < before + length front + 4096) (same_world (world_of n.state) w is) here

pub went_behind : (sink gained : Option (List ℕ)) (modules : List Text) (stops : List StopAt) (how : Walk) (turns : ℕ) (valued : Bool) (r : Option Standing) (first : World) (before sent : ℕ) (h : Halt) (new : Option Standing) (text : List ℕ) (after : State)
    → IsWorldOf r first → before ≡ length (output first.trail) → Goes modules stops how turns r h new → Sends sink gained modules stops how turns r sent new → LeavesFew h sent new
    → ((s : Start) → IsRunOf s modules r → IsRunOf s modules new) → ToldBehind valued before sent h new text → after ≡ state_after h new
    → Gains sink gained (λ front. Went modules stops how turns valued r front text after)
went_behind sink gained modules stops how turns valued None first before sent h new text after stood at goes sends few meant told follows =
    absurd (lost_says valued h new told.world told.said goes.0 goes.1 told.says)
went_behind sink gained modules stops how turns valued (Some m) first before sent h None text after stood at goes sends few meant told follows =
    absurd (lost_says valued h None told.world told.said goes refl told.says)
went_behind sink gained modules stops how turns valued (Some m) first before sent h (Some n) text after stood at goes sends few meant told follows =
    let from : length (written m) ≡ before = sym (at ∙ ap (λ w. length (output w.trail)) (stood (world_of m.state) refl)) in
    let there : world_of n.state ≡ told.world = sym (told.stands (world_of n.state) refl) in
    let behind : drop before (written n) ≡ sends.front ++ drop sent (written n) =
    subst (λ k. drop k (written n) ≡ sends.front ++ drop sent (written n)) from sends.whole in
    let whole : drop before (output told.world.trail) ≡ sends.front ++ drop sent (output told.world.trail) =
    subst (λ w. drop before (output w.trail) ≡ sends.front ++ drop sent (output w.trail)) there behind in
    let order : before ≤ sent = subst (λ k. k ≤ sent) from sends.order in
    let inside : sent ≤ length (written n) = sends.inside in
    let reached : sent ≡ before + length sends.front = posted_length before sent (written n) sends.front order inside behind in (
      sends.front,
      sends.gains,
      record {
        first = first;
        stood = stood;
        stops_at = h;
        new = Some n;
        goes = goes;
        meant = meant;
        told = subst (λ k. Told valued k h (Some n) (sends.front ++ text)) at (record { world = told.world; stands = told.stands; said = told.said; says = told.says; whole = told.whole sends.front whole });
        few = subst (λ k. KeepsFew h k sends.front (Some n)) at (few_behind h n before sent sends.front reached few);
        follows = follows;
      },
    )

-- the first bytes of a go
pub first_of : (sink gained : Option (List ℕ)) (modules : List Text) (stops : List StopAt) (how : Walk) (turns : ℕ) (r : Option Standing) → SendsSome sink gained modules stops how turns r → Gains sink gained (λ front. IsFirstOf modules stops how turns r front)
first_of sink gained modules stops how turns None p = ([], p, refl)
first_of sink gained modules stops how turns (Some m) (end, last, go, (front, rest, whole, gains)) = (front, gains, (end, last, go, (front, rest, whole, refl)))

-- the same, of bytes that are those of a place to which a go posted
front_of : (modules : List Text) (stops : List StopAt) (how : Walk) (turns sent : ℕ) (m : Standing) (new : Option Standing) (h : Halt) (sink gained : Option (List ℕ)) (bytes : List ℕ)
    → Goes modules stops how turns (Some m) h new
    → ((a b : Option (List ℕ)) → Posted a b (length (written m)) sent bytes → Sends a b modules stops how turns (Some m) sent new)
    → (p : Posted sink gained (length (written m)) sent bytes) → IsFirstOf modules stops how turns (Some m) p.front
front_of modules stops how turns sent m new h sink gained bytes goes back p =
    sends_some (Some []) (Some p.front) modules stops how turns sent (Some m) new h goes
    (back (Some []) (Some p.front) (record { front = p.front; gains = refl; whole = p.whole; order = p.order; inside = p.inside }))

-- Nothing went out of a go, or what went out says whether a line is open.
kept_open : (sink gained : Option (List ℕ)) (modules : List Text) (stops : List StopAt) (how : Walk) (turns : ℕ) (r : Option Standing) (first : World) (before sent : ℕ) (h : Halt) (new : Option Standing) (within now : Bool)
    → IsWorldOf r first → before ≡ length (output first.trail) → Goes modules stops how turns r h new → Sends sink gained modules stops how turns r sent new
    → sent ≤ before → now ≡ within → Gains sink gained (λ front. IsFirstOf modules stops how turns r front × (now ≡ stays_in_line within front))
kept_open sink gained modules stops how turns None first before sent h new within now stood at goes sends none same = ([], sends, (refl, same))
kept_open sink gained modules stops how turns (Some m) first before sent h None within now stood at goes (end, last, go, posted) none same =
    let from : length (written m) ≡ before = sym (at ∙ ap (λ w. length (output w.trail)) (stood (world_of m.state) refl)) in
    let reached : sent ≡ length (written m) + length posted.front = posted_length _ sent _ posted.front posted.order posted.inside posted.whole in
    let empty : posted.front ≡ [] = no_bytes posted.front (omega (arith, reached, none, from)) in
    (posted.front, posted.gains, (front_of modules stops how turns sent m None h sink gained (written last) goes (λ a b p. (end, last, go, p)) posted, same ∙ ap (stays_in_line within) (sym empty)))
kept_open sink gained modules stops how turns (Some m) first before sent h (Some n) within now stood at goes sends none same =
    let from : length (written m) ≡ before = sym (at ∙ ap (λ w. length (output w.trail)) (stood (world_of m.state) refl)) in
    let reached : sent ≡ length (written m) + length sends.front = posted_length _ sent (written n) sends.front sends.order sends.inside sends.whole in
    let empty : sends.front ≡ [] = no_bytes sends.front (omega (arith, reached, none, from)) in
    (sends.front, sends.gains, (front_of modules stops how turns sent m (Some n) h sink gained (written n) goes (λ a b p. p) sends, same ∙ ap (stays_in_line within) (sym empty)))

opened : (sink gained : Option (List ℕ)) (modules : List Text) (stops : List StopAt) (how : Walk) (turns : ℕ) (r : Option Standing) (first : World) (before sent : ℕ) (h : Halt) (n : Standing) (within now : Bool)
    → IsWorldOf r first → before ≡ length (output first.trail) → Goes modules stops how turns r h (Some n) → Sends sink gained modules stops how turns r sent (Some n)
    → now ≡ stays_in_line within (drop before (take sent (written n))) → Gains sink gained (λ front. IsFirstOf modules stops how turns r front × (now ≡ stays_in_line within front))
opened sink gained modules stops how turns None first before sent h n within now stood at goes sends is = absurd (not_none n goes.1)
opened sink gained modules stops how turns (Some m) first before sent h n within now stood at goes sends is =
    let from : length (written m) ≡ before = sym (at ∙ ap (λ w. length (output w.trail)) (stood (world_of m.state) refl)) in
    let bytes : drop before (take sent (written n)) ≡ sends.front =
    subst (λ k. drop k (take sent (written n)) ≡ sends.front) from (posted_bytes (length (written m)) sent (written n) sends.front sends.order sends.inside sends.whole) in
    (sends.front, sends.gains, (front_of modules stops how turns sent m (Some n) h sink gained (written n) goes (λ a b p. p) sends, is ∙ ap (stays_in_line within) bytes))

-- where a run stands, as the code knows it
pub known_on : (r : Option Standing) → is_ended r ≡ false → IsKnown r
known_on None p = absurd (cc)
known_on (Some m) p = (m, refl)

pub known_end : (r : Option Standing) (e : Ended) → EndedSo r e → is_told e ≡ true → IsKnown r
known_end r (ended.Exit status) (w, c, is) told = (_, is)
known_end r (ended.Undefined b) (w, c, is) told = (_, is)
known_end r (ended.StackFull key) (w, c, is) told = (_, is)
known_end r ended.BirthLimit (w, c, is) told = (_, is)
known_end r ended.OutOfSteps (w, c, is) told = absurd (cc)
known_end r ended.NoRoom (w, c, is) told = absurd (cc)

pub known_open : (r : Option Standing) (w : World) (before sent : ℕ) (within now : Bool) (bytes all : List ℕ) → IsKnown r → IsWorldOf r w → all ≡ output w.trail → bytes ≡ drop before (take sent all) → now ≡ stays_in_line within bytes → IsUntold before sent within r (lost.NoMemory now)
known_open r w before sent within now bytes all (m, is) stood written part told =
    let here : w ≡ world_of m.state = stood (world_of m.state) (ap world_in is) in
    inr (m, is, told ∙ ap (stays_in_line within) (part ∙ ap (λ xs. drop before (take sent xs)) (written ∙ ap (λ (v : World). output v.trail) here)))

-- where nothing is told, no write has failed
pub untold_unfailed : {T : Type 0} (A : Type 0) (r : Option Standing) (before sent : ℕ) (within : Bool) (l : Lost) (q : Result T Lost) → IsUntold before sent within r l → q ≡ Err l → q ≡ Err (lost.Unsent unsent.Failed) → A
untold_unfailed A r before sent within (lost.NoMemory now) q p is failed = absurd (cc)
untold_unfailed A r before sent within (lost.Unsent unsent.NoMemory) q p is failed = absurd (cc)
untold_unfailed A r before sent within (lost.Unsent unsent.Failed) q p is failed = absurd p

pub none_open : (r : Option Standing) (before sent : ℕ) (within : Bool) → sent ≤ before → IsUntold before sent within r (lost.NoMemory within)
none_open r before sent within none = inl (none, refl)

-- nothing is told of a go that halted
pub untold_so : (sink gained : Option (List ℕ)) (modules : List Text) (stops : List StopAt) (how : Walk) (turns : ℕ) (r : Option Standing) (first : World) (before sent : ℕ) (h : Halt) (new : Option Standing) (within : Bool) (l : Lost)
    → IsWorldOf r first → before ≡ length (output first.trail) → Goes modules stops how turns r h new → Sends sink gained modules stops how turns r sent new → IsUntold before sent within new l
    → Loses sink gained (λ front. IsFirstOf modules stops how turns r front) within l
untold_so sink gained modules stops how turns r first before sent h new within (lost.NoMemory now) stood at goes sends (inl (none, same)) =
    kept_open sink gained modules stops how turns r first before sent h new within now stood at goes sends none same
untold_so sink gained modules stops how turns r first before sent h new within (lost.NoMemory now) stood at goes sends (inr (n, known, is)) =
    opened sink gained modules stops how turns r first before sent h n within now stood at
    (subst (λ x. Goes modules stops how turns r h x) known goes) (subst (λ x. Sends sink gained modules stops how turns r sent x) known sends) is
untold_so sink gained modules stops how turns r first before sent h new within (lost.Unsent e) stood at goes sends p =
    first_of sink gained modules stops how turns r (sends_some sink gained modules stops how turns sent r new h goes sends)

first_in : (old : Plain) (how : Walk) (modules : List Text) (stops : List StopAt) (turns : ℕ) (r : Option Standing) (front : List ℕ)
    → modules ≡ going_texts old → stops ≡ going_stops old → turns ≡ old.limits.turns → IsFirstOf modules stops how turns r front
    → IsFirstOf (going_texts old) (going_stops old) how old.limits.turns r front
first_in old how modules stops turns r front m p t first =
    subst (λ x. IsFirstOf (going_texts old) (going_stops old) how x r front) t
    (subst (λ x. IsFirstOf (going_texts old) x how turns r front) p (subst (λ x. IsFirstOf x stops how turns r front) m first))

pub walk_told : (sink gained : Option (List ℕ)) (old mid new : Plain) (how : Walk) (modules : List Text) (stops : List StopAt) (turns : ℕ) (valued : Bool) (run : Option Standing) (text : List ℕ) (s after : State)
    → TakesRun old run mid → modules ≡ going_texts old → stops ≡ going_stops old → turns ≡ mid.limits.turns → valued ≡ is_valued old
    → Gains sink gained (λ front. Went modules stops how turns valued run front text s) → after ≡ s → new ≡ in_state after (caught_up mid)
    → WalksOut sink gained old how (Ok (answer.Ran text)) new
walk_told sink gained old mid new how modules stops turns valued run text s after takes m p t v (front, gains, went) same is =
    (front, gains, walked old mid new how modules stops turns valued run front text s after takes m p t v went same is)

-- the first bytes of a go of the run that was taken out
first_taken : (old mid : Plain) (how : Walk) (modules : List Text) (stops : List StopAt) (turns : ℕ) (run : Option Standing) (front : List ℕ)
    → TakesRun old run mid → modules ≡ going_texts old → stops ≡ going_stops old → turns ≡ mid.limits.turns
    → IsFirstOf modules stops how turns run front → WalkFirst old how front
first_taken old mid how modules stops turns run front ((r, runs, settles), taken) m p t first = (
  r,
  runs,
  subst (λ x. IsFirstOf (going_texts old) (going_stops old) how old.limits.turns x front) settles
      (first_in old how modules stops turns run front m p (t ∙ ap (λ (x : Plain). x.limits.turns) taken) first),
)

pub walk_first : (sink gained : Option (List ℕ)) (old mid : Plain) (how : Walk) (modules : List Text) (stops : List StopAt) (turns : ℕ) (run : Option Standing)
    → TakesRun old run mid → modules ≡ going_texts old → stops ≡ going_stops old → turns ≡ mid.limits.turns
    → Gains sink gained (λ front. IsFirstOf modules stops how turns run front) → Gains sink gained (λ front. WalkFirst old how front)
walk_first sink gained old mid how modules stops turns run takes m p t (front, gains, first) =
    (front, gains, first_taken old mid how modules stops turns run front takes m p t first)

-- why nothing is told
pub lost_memory : (sink gained : Option (List ℕ)) (First : List ℕ → Type 0) (before now : Bool) (l : Lost) → l ≡ lost.NoMemory now → Loses sink gained First before l → Gains sink gained (λ front. First front × (now ≡ stays_in_line before front))
lost_memory sink gained First before now l is p = subst (Loses sink gained First before) is p

pub lost_write : (sink gained : Option (List ℕ)) (First : List ℕ → Type 0) (before : Bool) (e : Unsent) (l : Lost) → l ≡ lost.Unsent e → Loses sink gained First before l → Gains sink gained First
lost_write sink gained First before e l is p = subst (Loses sink gained First before) is p

-- no memory was left before the run went on, and as it was told of
pub walk_unbegun : (sink : Option (List ℕ)) (old new : Plain) (how : Walk) → new ≡ old → WalksOut sink sink old how (Ok answer.NoMemory) new
walk_unbegun sink old new how is = ([], appends_none sink, inl (refl, is))

-- a go may have sent nothing
first_nothing : (modules : List Text) (stops : List StopAt) (how : Walk) (turns : ℕ) (r : Option Standing) → IsFirstOf modules stops how turns r []
first_nothing modules stops how turns None = appends_none (Some [])
first_nothing modules stops how turns (Some m) =
    let (end, last, go) = goes_somewhere (want_of stops how turns m) modules m in
    (end, last, go, ([], _, refl, appends_none (Some [])))

some_run : (s : State) → IsGoing s → (r : Option Standing) × RunsIn s r
some_run state.Idle going = absurd going
some_run (state.Stopped r) going = (r, refl)
some_run (state.Paused r) going = (r, refl)
some_run (state.StoppedMixed w) going = absurd going
some_run (state.PausedMixed w) going = absurd going
some_run state.Ended going = absurd going

given_up : (old new : Plain) (how : Walk) → IsGoing old.state → IsGivenUp old new → IsCutOff (WalkFirst old how) old [] new
given_up old new how going (inl is) = inl (refl, is)
given_up old new how going (inr is) =
    let run = some_run old.state going in
    inr ((run.0, run.1, first_nothing (going_texts old) (going_stops old) how old.limits.turns (settled old run.0)), is)

-- no memory was left as the run was taken out
pub walk_untaken : (sink : Option (List ℕ)) (old new : Plain) (how : Walk) → IsGoing old.state → IsGivenUp old new → WalksOut sink sink old how (Ok answer.NoMemory) new
walk_untaken sink old new how going up = ([], appends_none sink, given_up old new how going up)

-- the session whose run was cut off
cut_there : (old v : Plain) (s : State) (now : Bool) (front : List ℕ) → v ≡ old → s ≡ state.Ended → now ≡ stays_in_line old.in_line front → record v { state = s; in_line = now } ≡ cut_off front old
cut_there old v s now front is over told =
    ap (λ x. record v { state = x; in_line = now }) over ∙ ap (λ x. record v { state = state.Ended; in_line = x }) told
    ∙ ap (λ (x : Plain). record x { state = state.Ended; in_line = stays_in_line old.in_line front }) is

pub walk_lost : (sink gained : Option (List ℕ)) (old mid new : Plain) (how : Walk) (modules : List Text) (stops : List StopAt) (turns : ℕ) (run : Option Standing) (within now : Bool)
    → TakesRun old run mid → modules ≡ going_texts old → stops ≡ going_stops old → turns ≡ mid.limits.turns → within ≡ mid.in_line
    → new ≡ record mid { in_line = now } → Gains sink gained (λ front. IsFirstOf modules stops how turns run front × (now ≡ stays_in_line within front))
    → WalksOut sink gained old how (Ok answer.NoMemory) new
walk_lost sink gained old mid new how modules stops turns run within now takes m p t o is (front, gains, (first, told)) =
    let open_line : now ≡ stays_in_line old.in_line front = told ∙ ap (λ x. stays_in_line x front) (o ∙ ap (λ (x : Plain). x.in_line) takes.1) in
    let cut : new ≡ cut_off front old = is ∙ ap (λ (x : Plain). record x { in_line = now }) takes.1 ∙ ap (λ b. record old { state = state.Ended; in_line = b }) open_line in
    (front, gains, inr (first_taken old mid how modules stops turns run front takes m p t first, cut))

run_is : (old : Plain) (first : List Text) (key : Key) (stack heap : ℕ) (input : List ℕ) (r : Option Standing) → first ≡ going_texts old → stack ≡ old.limits.stack → heap ≡ old.limits.heap → r ≡ Some (started first key stack heap input) → r ≡ run_of old key input
run_is old first key stack heap input r f k h is =
    is ∙ ap (λ x. Some (started x key stack heap input)) f ∙ ap (λ x. Some (started (going_texts old) key x heap input)) k ∙ ap (λ x. Some (started (going_texts old) key old.limits.stack x input)) h

pub begin_told : (sink gained : Option (List ℕ)) (old new : Plain) (first modules : List Text) (stops : List StopAt) (key : Key) (stack heap turns : ℕ) (valued : Bool) (input : List ℕ) (r : Option Standing) (text : List ℕ) (s after : State)
    → first ≡ going_texts old → modules ≡ going_texts old → stops ≡ going_stops old → stack ≡ old.limits.stack → heap ≡ old.limits.heap → turns ≡ old.limits.turns → valued ≡ is_valued old
    → r ≡ Some (started first key stack heap input) → IsRunOf (start_of first key stack heap input) first r
    → Gains sink gained (λ front. Went modules stops walk.Cont turns valued r front text s) → after ≡ s → new ≡ in_state after old
    → BeginsOut sink gained old key input (Ok (answer.Ran text)) new
begin_told sink gained old new first modules stops key stack heap turns valued input r text s after f m p k h t v is meant (front, gains, went) follows put =
    (front, gains, begins old new first modules stops key stack heap turns valued input r front text s after f m p k h t v is meant went follows put)

first_begun : (old : Plain) (first modules : List Text) (stops : List StopAt) (key : Key) (stack heap turns : ℕ) (input : List ℕ) (r : Option Standing) (front : List ℕ)
    → first ≡ going_texts old → modules ≡ going_texts old → stops ≡ going_stops old → stack ≡ old.limits.stack → heap ≡ old.limits.heap → turns ≡ old.limits.turns
    → r ≡ Some (started first key stack heap input) → IsFirstOf modules stops walk.Cont turns r front → BeginFirst old key input front
first_begun old first modules stops key stack heap turns input r front f m p k h t is q =
    subst (λ r. IsFirstOf (going_texts old) (going_stops old) walk.Cont old.limits.turns r front) (run_is old first key stack heap input r f k h is) (first_in old walk.Cont modules stops turns r front m p t q)

pub begin_first : (sink gained : Option (List ℕ)) (old : Plain) (first modules : List Text) (stops : List StopAt) (key : Key) (stack heap turns : ℕ) (input : List ℕ) (r : Option Standing)
    → first ≡ going_texts old → modules ≡ going_texts old → stops ≡ going_stops old → stack ≡ old.limits.stack → heap ≡ old.limits.heap → turns ≡ old.limits.turns
    → r ≡ Some (started first key stack heap input)
    → Gains sink gained (λ front. IsFirstOf modules stops walk.Cont turns r front) → Gains sink gained (λ front. BeginFirst old key input front)
begin_first sink gained old first modules stops key stack heap turns input r f m p k h t is (front, gains, q) =
    (front, gains, first_begun old first modules stops key stack heap turns input r front f m p k h t is q)

pub begin_unbegun : (sink : Option (List ℕ)) (old new : Plain) (key : Key) (input : List ℕ) → new ≡ old → BeginsOut sink sink old key input (Ok answer.NoMemory) new
begin_unbegun sink old new key input is = ([], appends_none sink, inl (refl, is))

pub begin_lost : (sink gained : Option (List ℕ)) (old v : Plain) (first modules : List Text) (stops : List StopAt) (key : Key) (stack heap turns : ℕ) (input : List ℕ) (r : Option Standing) (s : State) (within now : Bool)
    → first ≡ going_texts old → modules ≡ going_texts old → stops ≡ going_stops old → stack ≡ old.limits.stack → heap ≡ old.limits.heap → turns ≡ old.limits.turns
    → r ≡ Some (started first key stack heap input) → within ≡ old.in_line → v ≡ old → s ≡ state.Ended
    → Gains sink gained (λ front. IsFirstOf modules stops walk.Cont turns r front × (now ≡ stays_in_line within front))
    → BeginsOut sink gained old key input (Ok answer.NoMemory) (record v { state = s; in_line = now })
begin_lost sink gained old v first modules stops key stack heap turns input r s within now f m p k h t is o same over (front, gains, (q, told)) =
    (front, gains, inr (first_begun old first modules stops key stack heap turns input r front f m p k h t is q, cut_there old v s now front same over (told ∙ ap (λ x. stays_in_line x front) o)))

-- a run that begins so
begun_cut_off : (old : Moment) (file : Option (List ℕ)) (bytes front : List ℕ) (new : Plain) → has_main (texts old.session.modules) ≡ true → IsInput old.held file bytes
    → IsCutOff (BeginFirst old.session main_key bytes) old.session front new → IsCutOff (RunFirst old file) old.session front new
begun_cut_off old file bytes front new main input (inl p) = inl p
begun_cut_off old file bytes front new main input (inr (first, is)) = inr ((main, (bytes, input, first)), is)

begun_answers : (old : Moment) (file : Option (List ℕ)) (bytes front : List ℕ) (now : ℕ) (held : Option FileMap) (new : Plain) → has_main (texts old.session.modules) ≡ true → IsInput old.held file bytes → held ≡ old.held
    → (said : Answer) → BeginsSo old.session main_key bytes front said new → Runs old file front said (moment new held now)
begun_answers old file bytes front now held new main input same (answer.Ran text) p = (same, main, (bytes, input, p))
begun_answers old file bytes front now held new main input same answer.NoMemory p = (same, begun_cut_off old file bytes front new main input p)
begun_answers old file bytes front now held new main input same answer.Silent p = absurd p
begun_answers old file bytes front now held new main input same (answer.Loaded name) p = absurd p
begun_answers old file bytes front now held new main input same (answer.Unloaded name) p = absurd p
begun_answers old file bytes front now held new main input same (answer.Swapped name form) p = absurd p
begun_answers old file bytes front now held new main input same (answer.SwappedFast name) p = absurd p
begun_answers old file bytes front now held new main input same (answer.Edited name) p = absurd p
begun_answers old file bytes front now held new main input same (answer.Compiled name) p = absurd p
begun_answers old file bytes front now held new main input same (answer.CompiledFast name) p = absurd p
begun_answers old file bytes front now held new main input same (answer.StopSet k place) p = absurd p
begun_answers old file bytes front now held new main input same (answer.Deleted k) p = absurd p
begun_answers old file bytes front now held new main input same (answer.Reported k text) p = absurd p
begun_answers old file bytes front now held new main input same (answer.Dropped k) p = absurd p
begun_answers old file bytes front now held new main input same (answer.Shown lines) p = absurd p
begun_answers old file bytes front now held new main input same answer.Reset p = absurd p
begun_answers old file bytes front now held new main input same answer.Bye p = absurd p
begun_answers old file bytes front now held new main input same (answer.Refused d) p = absurd p

pub begun_so : (sink gained : Option (List ℕ)) (old : Moment) (file : Option (List ℕ)) (bytes : List ℕ) (now : ℕ) (held : Option FileMap) (new : Plain) (r : Result Answer Unsent) → has_main (texts old.session.modules) ≡ true → IsInput old.held file bytes → held ≡ old.held
    → BeginsOut sink gained old.session main_key bytes r new → RunsOut sink gained old file r (moment new held now)
begun_so sink gained old file bytes now held new (Ok said) main input same (front, gains, p) = (front, gains, begun_answers old file bytes front now held new main input same said p)
begun_so sink gained old file bytes now held new (Err e) main input same (front, gains, p) = (front, gains, (main, (bytes, input, p)))

-- no program is run
pub input_denied : (old : Moment) (file : Option (List ℕ)) (now : ℕ) (d : Denied) → has_main (texts old.session.modules) ≡ true → InputDenied old.held file old.faults now d → RunDenied old file now d
input_denied old None now d main p = absurd p
input_denied old (Some file) now (denied.NoFile f) main p = (main, p)
input_denied old (Some file) now (denied.TooLong f) main p = (main, p)
input_denied old (Some file) now (denied.FileFault f) main p = (main, p)
input_denied old (Some file) now denied.UnknownCommand main p = absurd p
input_denied old (Some file) now denied.BadArguments main p = absurd p
input_denied old (Some file) now denied.NoModule main p = absurd p
input_denied old (Some file) now denied.ModuleThere main p = absurd p
input_denied old (Some file) now (denied.Translation r) main p = absurd p
input_denied old (Some file) now (denied.Doubled name home) main p = absurd p
input_denied old (Some file) now (denied.Clash name home) main p = absurd p
input_denied old (Some file) now (denied.NotOurs at first) main p = absurd p
input_denied old (Some file) now denied.RunActive main p = absurd p
input_denied old (Some file) now denied.NoRun main p = absurd p
input_denied old (Some file) now denied.NotAtStop main p = absurd p
input_denied old (Some file) now denied.NoMain main p = absurd p
input_denied old (Some file) now (denied.Space a) main p = absurd p
input_denied old (Some file) now (denied.NotVisible name) main p = absurd p
input_denied old (Some file) now (denied.NoProbe k) main p = absurd p
input_denied old (Some file) now (denied.NoStop k) main p = absurd p
input_denied old (Some file) now (denied.NoText home fun) main p = absurd p
input_denied old (Some file) now denied.NotObject main p = absurd p
input_denied old (Some file) now (denied.NotDeclared name) main p = absurd p

pub run_denied : (sink : Option (List ℕ)) (old : Moment) (file : Option (List ℕ)) (now : ℕ) (held : Option FileMap) (d : Denied) → has_main (texts old.session.modules) ≡ true → held ≡ old.held → InputDenied old.held file old.faults now d
    → RunsOut sink sink old file (Ok (answer.Refused d)) (moment old.session held now)
run_denied sink old file now held d main same p = ([], appends_none sink, (refl, (refl, same), input_denied old file now d main p))

pub run_without_main : (sink : Option (List ℕ)) (old : Moment) (file : Option (List ℕ)) (v : Plain) → v ≡ old.session → has_main (texts old.session.modules) ≡ false → RunsOut sink sink old file (Ok (answer.Refused denied.NoMain)) (moment v old.held old.faults)
run_without_main sink old file v is none = ([], appends_none sink, (refl, (is, refl), none))

pub no_main : (b : Bool) (modules there : List Text) → b ≡ has_main modules → b ≡ false → modules ≡ there → has_main there ≡ false
no_main b modules there is none same = ap has_main (sym same) ∙ sym is ∙ none

pub run_unbegun : (sink : Option (List ℕ)) (old : Moment) (file : Option (List ℕ)) (v : Plain) (now : ℕ) (held : Option FileMap) → v ≡ old.session → held ≡ old.held → RunsOut sink sink old file (Ok answer.NoMemory) (moment v held now)
run_unbegun sink old file v now held is same = ([], appends_none sink, (same, inl (refl, is)))

-- what comes of a go is what comes of its command
pub runs_so : (sink gained : Option (List ℕ)) (old new : Moment) (file : Option (List ℕ)) (c : Command) (r : Result Answer Unsent) → c ≡ command.Run file → RunsOutBy (are_sources (texts old.session.modules)) sink gained old file r new → GoesOut sink gained old c r new
runs_so sink gained old new file c (Ok said) is p = subst (λ c. GoesOut sink gained old c (Ok said) new) (sym is) p
runs_so sink gained old new file c (Err e) is p = subst (λ c. GoesOut sink gained old c (Err e) new) (sym is) p

module _ (sink gained : Option (List ℕ)) (old new : Plain) (held : Option FileMap) (faults : ℕ) (how : Walk) where
  -- the files are not looked at
  abbrev WalksOutThere : Result Answer Unsent → Type 0
  WalksOutThere (Ok said) = Gains sink gained (λ front. WalksBy (is_mixed old.state) old how front said new × ((held ≡ held) × (faults ≡ faults)))
  WalksOutThere (Err e) = Gains sink gained (λ front. WalkFirst old how front)

  walks_there : (r : Result Answer Unsent) → WalksOutBy (is_mixed old.state) sink gained old how r new → WalksOutThere r
  walks_there (Ok said) (front, gains, p) = (front, gains, (p, (refl, refl)))
  walks_there (Err e) p = p

module _ (sink gained : Option (List ℕ)) (old new : Plain) (held : Option FileMap) (faults : ℕ) (c : Command) where
  pub steps_so : (r : Result Answer Unsent) → c ≡ command.Step → WalksOutBy (is_mixed old.state) sink gained old walk.Step r new → GoesOut sink gained (moment old held faults) c r (moment new held faults)
  steps_so (Ok said) is p = subst (λ c. GoesOut sink gained (moment old held faults) c (Ok said) (moment new held faults)) (sym is) (walks_there sink gained old new held faults walk.Step (Ok said) p)
  steps_so (Err e) is p = subst (λ c. GoesOut sink gained (moment old held faults) c (Err e) (moment new held faults)) (sym is) p

  pub nexts_so : (r : Result Answer Unsent) → c ≡ command.Next → WalksOutBy (is_mixed old.state) sink gained old walk.Next r new → GoesOut sink gained (moment old held faults) c r (moment new held faults)
  nexts_so (Ok said) is p = subst (λ c. GoesOut sink gained (moment old held faults) c (Ok said) (moment new held faults)) (sym is) (walks_there sink gained old new held faults walk.Next (Ok said) p)
  nexts_so (Err e) is p = subst (λ c. GoesOut sink gained (moment old held faults) c (Err e) (moment new held faults)) (sym is) p

  pub conts_so : (r : Result Answer Unsent) → c ≡ command.Cont → WalksOutBy (is_mixed old.state) sink gained old walk.Cont r new → GoesOut sink gained (moment old held faults) c r (moment new held faults)
  conts_so (Ok said) is p = subst (λ c. GoesOut sink gained (moment old held faults) c (Ok said) (moment new held faults)) (sym is) (walks_there sink gained old new held faults walk.Cont (Ok said) p)
  conts_so (Err e) is p = subst (λ c. GoesOut sink gained (moment old held faults) c (Err e) (moment new held faults)) (sym is) p

-- a command that lets no program go on has nothing before its answer
quiet_so : (old : Moment) (c : Command) (said : Answer) (new : Moment) → Does old c said new → Carried old c [] said new
quiet_so old command.Nothing said new p = (refl, p)
quiet_so old command.Unknown said new p = absurd p
quiet_so old command.BadArguments said new p = absurd p
quiet_so old (command.Load name) said new p = (refl, p)
quiet_so old (command.Unload name) said new p = (refl, p)
quiet_so old (command.Swap name form) said new p = (refl, p)
quiet_so old (command.SwapFast name) said new p = (refl, p)
quiet_so old (command.Edit name file) said new p = (refl, p)
quiet_so old (command.Compile name) said new p = (refl, p)
quiet_so old (command.CompileFast name) said new p = (refl, p)
quiet_so old (command.Run file) said new p = absurd p
quiet_so old (command.Eval name line) said new p = absurd p
quiet_so old (command.Stop place) said new p = (refl, p)
quiet_so old (command.Delete k) said new p = (refl, p)
quiet_so old command.Step said new p = absurd p
quiet_so old command.Next said new p = absurd p
quiet_so old command.Cont said new p = absurd p
quiet_so old command.StepOne said new p = absurd p
quiet_so old command.Frames said new p = (refl, p)
quiet_so old (command.Print name) said new p = (refl, p)
quiet_so old command.Machine said new p = (refl, p)
quiet_so old (command.Disas home fun) said new p = (refl, p)
quiet_so old (command.Xref name) said new p = (refl, p)
quiet_so old (command.Whatis name) said new p = (refl, p)
quiet_so old command.List said new p = (refl, p)
quiet_so old (command.Report k) said new p = (refl, p)
quiet_so old (command.Drop k) said new p = (refl, p)
quiet_so old command.Reset said new p = (refl, p)
quiet_so old command.Quit said new p = (refl, p)

not_quiet : (b : Bool) (front : List ℕ) → b ≡ true → b ≡ false → front ≡ []
not_quiet true front p q = absurd (cc)
not_quiet false front p q = absurd (cc)

module _ (old : Moment) (c : Command) (mid : Plain) (r : Option Denied) (is : mid ≡ asked c old.session) (told : r ≡ refusal_of mid c) where
  said_so : refusal_of (asked c old.session) c ≡ r
  said_so = ap (λ x. refusal_of x c) (sym is) ∙ sym told

  -- a command that is refused, and one that is carried out
  pub refused_so : (sink : Option (List ℕ)) (d : Denied) → r ≡ Some d → Speaks sink sink old c (answer.Refused d) (moment mid old.held old.faults)
  refused_so sink d p =
      let answers : AnswersTo old c [] (answer.Refused d) (moment mid old.held old.faults) =
      subst (λ r. Decides r (moment (asked c old.session) old.held old.faults) c [] (answer.Refused d) (moment mid old.held old.faults)) (sym (said_so ∙ p)) (refl, refl, ap (λ x. moment x old.held old.faults) is) in
      ([], appends_none sink, (answers, λ quiet. refl))

  module _ (new : Moment) (free : r ≡ None) where
    answers_so : (front : List ℕ) (said : Answer) → Carried (moment mid old.held old.faults) c front said new → AnswersTo old c front said new
    answers_so front said carried =
        subst (λ r. Decides r (moment (asked c old.session) old.held old.faults) c front said new) (sym (said_so ∙ free))
        (subst (λ x. Carried (moment x old.held old.faults) c front said new) is carried)

    go_first : (front : List ℕ) → WritesFirst (moment mid old.held old.faults) c front → GoFirst old c front
    go_first front p = (said_so ∙ free, subst (λ x. WritesFirst (moment x old.held old.faults) c front) is p)

    pub goes_so : (sink gained : Option (List ℕ)) (out : Result Answer Unsent) → is_go c ≡ true → new.held ≡ old.held → GoesOut sink gained (moment mid old.held old.faults) c out new
        → MatchResult out (λ said. Speaks sink gained old c said new) (λ _. BreaksOff sink gained old c new.held)
    goes_so sink gained (Ok said) goes same (front, gains, q) = (front, gains, (answers_so front said q, not_quiet (is_go c) front goes))
    goes_so sink gained (Err e) goes same (front, gains, p) = (same, (front, gains, go_first front p))

  -- the same without a sink
  pub refused_answer : (d : Denied) → r ≡ Some d → AnswersTo old c [] (answer.Refused d) (moment mid old.held old.faults)
  refused_answer d p =
      subst (λ r. Decides r (moment (asked c old.session) old.held old.faults) c [] (answer.Refused d) (moment mid old.held old.faults)) (sym (said_so ∙ p)) (refl, refl, ap (λ x. moment x old.held old.faults) is)

  pub done_answer : (new : Moment) (said : Answer) → r ≡ None → Does (moment mid old.held old.faults) c said new → AnswersTo old c [] said new
  done_answer new said free does = answers_so new free [] said (quiet_so (moment mid old.held old.faults) c said new does)
