-- What the answers to commands tell of a session's run of both forms.
use Rattle.std.proofs.Common.{◌≡◌, ◌⊎◌, inl, inr, ℕ, zero, suc, ◌+◌, ◌≤◌, Bool, true, false, List, [], ◌∷◌, ◌++◌, drop, length, refl, ◌∙◌, sym, ap, subst, Option, Some, None, is_some}
use Rattle.std.specs.Prelude.{map}
use Rattle.sc_interp.specs.declared.stepped.Shown.{Shown}
use Rattle.sc_interp.specs.declared.stepped.Shown.TheVariants.{Nothing}
use Rattle.sc_interp_change_laws.specs.Showing.{IsEvent}
use Rattle.sc_interp_world.specs.Outputs.{output}
use Rattle.sc_isa_image.specs.declared.image.Image.{Image}
use Rattle.sc_base.specs.declared.memory.Form.{Form}
use Rattle.sc_base.specs.declared.memory.Form.TheVariants as form
use Rattle.sc_meaning.specs.Behaviour.{main_key}
use Rattle.sc_meaning.specs.Versions.{Text}
use Rattle.sc_mixed.specs.Standing.{Standing}
use Rattle.sc_mixed.specs.Starting.{Starts}
use Rattle.sc_mixed.specs.declared.calls.Next.{Next}
use Rattle.sc_mixed.specs.declared.course.Course.{Course as Stand}
use Rattle.sc_mixed.specs.declared.course.Course.TheVariants.{On, Over}
use Rattle.sc_mixed.specs.Changing.{Changes}
use Rattle.sc_mixed.specs.Goes.{GoesTo}
use Rattle.sc_mixed.specs.Single.{StepsOneTo}
use Rattle.sc_mixed_means.specs.Runs.{texts_in}
use Rattle.sc_mixed_means.specs.Stages.{Build}
use Rattle.sc_session_forms.specs.Forms.{are_sources}
use Rattle.sc_session_forms.specs.Stepped.{StepTells}
use Rattle.sc_words.specs.declared.answer.Answer.{Answer}
use Rattle.sc_words.specs.declared.answer.Answer.TheVariants as answer
use Rattle.sc_words.specs.declared.command.Command.{Command}
use Rattle.sc_words.specs.declared.command.Command.TheVariants as command
use Rattle.sc_words.specs.declared.denied.Denied.{Denied}
use Rattle.sc_words.specs.declared.stop.StopAt.{StopAt}
use Rattle.sc_words.specs.declared.stop.Walk.{Walk}
use Rattle.sc_words.specs.declared.stop.Walk.TheVariants as walk
use Rattle.sc_world.specs.declared.halt.Halt.{Halt}
use Rattle.sc_world.specs.declared.halt.Halt.TheVariants as halt
use Rattle.sc_session.specs.declared.choice.Choice.{Choice}
use Rattle.sc_session.specs.declared.choice.Choice.TheVariants as choice
use Rattle.sc_session.specs.declared.limits.Limits.{Limits}
use Rattle.sc_session.specs.declared.present.Present.{Present}
use Rattle.sc_session.specs.declared.state.State.{State}
use Rattle.sc_session.specs.declared.state.State.TheVariants as state
use Rattle.sc_session.specs.Changing.{at_rest, caught_up, come_going, come_with, evaluating_going, forgotten, is_over, past_going, past_with, state_with, stays, unended, versions_by, versions_left}
use Rattle.sc_session.specs.Evaluating.{Evaluates}
use Rattle.sc_session.specs.Going as going
use Rattle.sc_session.specs.Going.{IsCutOff, IsGivenUp, in_state}
use Rattle.sc_session.specs.Linking.{IsImage}
use Rattle.sc_session.specs.Mixing.{Becomes, MixedGoneThrough, MixedIn, MixedStarts, MixedWalks, MixedWent, Relinks, WalksBy, is_mixed, mixed_state}
use Rattle.sc_session.specs.Modules.{texts}
use Rattle.sc_session.specs.Placing.{IsImageOver}
use Rattle.sc_session.specs.Plain.{Plain}
use Rattle.sc_session.specs.Probing.{Drops, without_probe}
use Rattle.sc_session.specs.Single.{CarriesOne, SingleWent, single_state}
use Rattle.sc_session.specs.States.{refusal_of, starting}
use Rattle.sc_session.specs.Loading.{file_of, file_or}
use Rattle.sc_session.specs.Stopping.{Sets, places, with_stop, without_stop}
use Rattle.sc_session.specs.Transcript.{AnswersTo, Carried, Decides, Edits, Loads, MixedRuns, Moment, Runs, RunsBy, RunFirst, Swaps, Unloads, asked, empty, joined, moment, replaced, swapped, unloaded}
use Rattle.sc_session.specs.Valued.{going_texts, is_valued, stops_by, with_evaluation}
use Rattle.sc_session_means.specs.Follows.{FollowsIn, FollowsThere, Keeps, StandsNow, Waits}
use Rattle.sc_session_means.specs.Sessions.{ArePlaced, ChangeTells, EvalTells, GoesFirst, GoesFrom, IsTold, Placing, RunTells, RunsSoBy, Stays, Tells, WalkTells, WalksSoBy, changed_run, kept_at, kept_by, left_by}
use Rattle.sc_mixed_goes.specs.Shows.{AtEvent, Course, IsRun, Passes, RunsOn, StandsAt, begun_course}
use Rattle.sc_mixed_goes.specs.Stretches.{Walks, goes_by, halt_of, showing_at, standing_at, steps_by}
use Rattle.sc_mixed_goes.proofs.Going.{Behind, walks_behind, walks_now}
use Rattle.sc_mixed_goes.proofs.Starting.{starts_run}

module _ (at : Placing) where
  -- ---- the run stays where it is, or is followed no more

  none_follows : (t : Option Text) (past : List (List Present)) (come : ℕ) (modules : List Present) (s : State) → FollowsIn at t past come modules s None
  none_follows t past come modules state.Idle = refl
  none_follows t past come modules (state.Stopped r) = refl
  none_follows t past come modules (state.Paused r) = refl
  none_follows t past come modules (state.StoppedMixed m) = inl refl
  none_follows t past come modules (state.PausedMixed m) = inl refl
  none_follows t past come modules state.Ended = refl

  none_keeps : (session : Plain) → Keeps at session None
  none_keeps session = none_follows session.evaluating session.past session.come session.modules session.state

  moved : (session new : Plain) (run : Option Course) → new ≡ session → Keeps at session run → Keeps at new run
  moved session new run e k = subst (λ s. Keeps at s run) (sym e) k

  refused : (old : Moment) (run : Option Course) (c : Command) (d : Denied) → Tells at old run c (answer.Refused d) run
  refused old run (command.Run file) d = inl refl
  refused old run (command.Eval name line) d = inl refl
  refused old run command.Step d = inl refl
  refused old run command.Next d = inl refl
  refused old run command.Cont d = inl refl
  refused old run command.StepOne d = inl refl
  refused old run command.Reset d = inl refl
  refused old run (command.Load name) d = refl
  refused old run (command.Unload name) d = refl
  refused old run (command.Edit name file) d = refl
  refused old run (command.Swap name form) d = refl
  refused old run (command.SwapFast name) d = refl
  refused old run _ d = refl

  pub tells_nothing : (old : Moment) (run : Option Course) (c : Command) → Tells at old run c answer.NoMemory run
  tells_nothing old run (command.Run file) = inl refl
  tells_nothing old run (command.Eval name line) = inl refl
  tells_nothing old run command.Step = inl refl
  tells_nothing old run command.Next = inl refl
  tells_nothing old run command.Cont = inl refl
  tells_nothing old run command.StepOne = inl refl
  tells_nothing old run command.Reset = inl refl
  tells_nothing old run (command.Load name) = refl
  tells_nothing old run (command.Unload name) = refl
  tells_nothing old run (command.Edit name file) = refl
  tells_nothing old run (command.Swap name form) = refl
  tells_nothing old run (command.SwapFast name) = refl
  tells_nothing old run _ = refl

  -- ---- a go

  -- a course that a go left, in the state in which it left the session
  halted_follows : (t : Option Text) → t ≡ None → (past : List (List Present)) (modules : List Present) (h : Halt) (n : Standing) (d : Course) (s : Stand) → RunsOn s d → StandsAt s d n → AtEvent h s d → ArePlaced at (d.build ∷ d.later) → d.present.texts ≡ texts modules
      → FollowsIn at t past (length past) modules (mixed_state h n) (left_by s h d)
  halted_follows t plain past modules halt.Entered n d (On next now) run stands event placed same =
      inr (plain, (d, record { is = refl; runs = run; placed = placed }, event, inl (refl, record { texts = same; at = stands })))
  halted_follows t plain past modules halt.AtLine n d (On next now) run stands event placed same =
      inr (plain, (d, record { is = refl; runs = run; placed = placed }, event, inl (refl, record { texts = same; at = stands })))
  halted_follows t plain past modules halt.Ended n d (On next now) run stands event placed same = refl
  halted_follows t plain past modules (halt.Paused turns) n d (On next now) run stands event placed same =
      inr (plain, (d, record { is = refl; runs = run; placed = placed }, record { texts = same; at = stands }))
  halted_follows t plain past modules h n d (Over end) run stands event placed same = none_follows t past (length past) modules (mixed_state h n)

  left_follows : (t : Option Text) → t ≡ None → (past : List (List Present)) (modules : List Present) (h : Option Halt) (n : Standing) (d : Course) (s : Stand) → RunsOn s d → StandsAt s d n → AtEvent (halt_of h) s d → ArePlaced at (d.build ∷ d.later) → d.present.texts ≡ texts modules
      → FollowsIn at t past (length past) modules (single_state h n) (left_by s (halt_of h) d)
  left_follows t plain past modules None n d s run stands event placed same = halted_follows t plain past modules (halt.Paused 0) n d s run stands event placed same
  left_follows t plain past modules (Some h) n d s run stands event placed same = halted_follows t plain past modules h n d s run stands event placed same

  -- what a go, or a step of one instruction, of a session's run left, from where it stood
  record Walked (session : Plain) (old : Standing) (text : List ℕ) (new : Plain) : Type 0 where
    h : Option Halt
    stands : Standing
    plain : session.evaluating ≡ None
    walks : Walks (texts session.modules) (places session.stops) old h stands
    tells : StepTells false (length (output old.world.trail)) h stands text
    follows : new ≡ in_state (single_state h stands) (caught_up session)

  went_walked : (session new : Plain) (how : Walk) (old : Standing) (text : List ℕ) → session.evaluating ≡ None → MixedWent session how old text new → Walked session old text new
  went_walked session new how old text plain went =
      let goes = subst (λ t. GoesTo (with_evaluation t (texts session.modules)) (stops_by t (places session.stops)) how session.limits.turns old went.halts went.stands) plain went.gone.goes in
      let tells : StepTells (is_valued session) (length (output old.world.trail)) (Some went.halts) went.stands text = record { said = went.gone.tells.said; says = went.gone.tells.says; whole = went.gone.tells.whole } in
      record {
        h = Some went.halts;
        stands = went.stands;
        plain = plain;
        walks = goes_by how session.limits.turns went.halts refl goes;
        tells = subst (λ t. StepTells (is_some t) (length (output old.world.trail)) (Some went.halts) went.stands text) plain tells;
        follows = went.follows;
      }

  single_walked : (session new : Plain) (old : Standing) (text : List ℕ) → session.evaluating ≡ None → SingleWent session old text new → Walked session old text new
  single_walked session new old text plain went =
      let steps = subst (λ t. StepsOneTo (with_evaluation t (texts session.modules)) (stops_by t (places session.stops)) old went.halts went.stands) plain went.gone.steps in
      record {
        h = went.halts;
        stands = went.stands;
        plain = plain;
        walks = steps_by steps;
        tells = subst (λ t. StepTells (is_some t) (length (output old.world.trail)) went.halts went.stands text) plain went.gone.tells;
        follows = went.follows;
      }

  -- what is told of a go, and how the session stands behind it
  abbrev pub Onward : ℕ → List (List Text) → Image → Course → List ℕ → Plain → Type 0
  Onward before came i c text new = (after : Option Course) × IsTold at before came i c text after × Keeps at new after

  goes_on : (session new : Plain) → session.evaluating ≡ None → (before : ℕ) (came : List (List Text)) (i : Image) (c d : Course) (h : Option Halt) (n : Standing) (text : List ℕ) → Passes c d came n → AtEvent (halt_of h) n.course d → ArePlaced at (d.build ∷ d.later) → d.present.texts ≡ texts session.modules → d.present.image ≡ i
      → StepTells false before h n text → new ≡ in_state (single_state h n) (caught_up session) → Onward before came i c text new
  goes_on session new plain before came i c d h n text passes event placed same linked tells follows = (
    left_by n.course (halt_of h) d,
    record { h = h; stands = n; new = d; passes = passes; placed = placed; linked = linked; tells = tells; left = refl },
    moved (in_state (single_state h n) (caught_up session)) new (left_by n.course (halt_of h) d) follows
        (left_follows session.evaluating plain session.past session.modules h n d n.course passes.run passes.stands event placed same),
  )

  -- the builds that came are placed so, if their places are those of their images
  builds_placed : (bs cs : List Build) → ArePlaced at bs → ArePlaced at cs → ArePlaced at (bs ++ cs)
  builds_placed [] cs p q = q
  builds_placed (b ∷ bs) cs p q = (p.0, builds_placed bs cs p.1 q)

  course_placed : (c d : Course) (came : List (List Text)) (n : Standing) (p : Passes c d came n) → ArePlaced at (c.build ∷ c.later) → ArePlaced at p.builds → ArePlaced at (d.build ∷ d.later)
  course_placed c d came n p placed new =
      let first : d.build ≡ c.build = ap (λ (x : Course). x.build) p.same in (
        subst (λ (x : Build). x.places ≡ at x.image) (sym first) placed.0,
        subst (λ x. ArePlaced at x) (sym p.later) (builds_placed c.later p.builds placed.1 new),
      )

  none_placed : (bs : List Build) → map texts_in bs ≡ [] → ArePlaced at bs
  none_placed [] e = tt
  none_placed (b ∷ bs) e = let some : b.texts ∷ map texts_in bs ≡ [] = e in absurd cc

  changed_placed : (c d : Course) (b : Build) → d.build ≡ c.build → d.later ≡ c.later ++ b ∷ [] → ArePlaced at (c.build ∷ c.later) → b.places ≡ at b.image → ArePlaced at (d.build ∷ d.later)
  changed_placed c d b first later placed new = (
    subst (λ (x : Build). x.places ≡ at x.image) (sym first) placed.0,
    subst (λ x. ArePlaced at x) (sym later) (builds_placed c.later (b ∷ []) placed.1 (new, tt)),
  )

  -- a go where no change waits
  goes_here : (session new : Plain) (before : ℕ) (i : Image) (c : Course) (now : Shown) (m : Standing) (text : List ℕ) → IsRun c → (IsEvent now → now ≡ c.place.now) → ArePlaced at (c.build ∷ c.later) → c.present.texts ≡ texts session.modules → c.present.image ≡ i → m ≡ showing_at c.present.image c.place now
      → length (output m.world.trail) ≡ before → Walked session m text new → Onward before [] i c text new
  goes_here session new before i c now m text run event placed same linked stands written went =
      let p = walks_now c now (texts session.modules) (places session.stops) went.h m went.stands run event same stands went.walks in
      goes_on session new went.plain before [] i c p.0 went.h went.stands text p.1 p.3 (course_placed c p.0 [] went.stands p.1 placed (none_placed p.1.builds p.1.texts))
      (ap (λ (b : Build). b.texts) p.2 ∙ same) (ap (λ (b : Build). b.image) p.2 ∙ linked) (subst (λ k. StepTells false k went.h went.stands text) written went.tells) went.follows

  -- and where one does
  goes_there : (session new : Plain) (i : Image) (c : Course) (m n : Standing) (text : List ℕ) → IsRun c → IsEvent c.place.now → ArePlaced at (c.build ∷ c.later) → m ≡ standing_at i c.place
      → MixedGoneThrough (c.present.texts ∷ texts session.modules ∷ []) m n → Walked session n text new → Onward (length (output n.world.trail)) (texts session.modules ∷ []) i c text new
  goes_there session new i c m n text run event placed stands (mid, changes, is) went =
      let b : Build = record { texts = texts session.modules; image = i; places = at i } in
      let here = subst (λ (x : Standing). Changes c.present.texts b.texts x mid) stands changes in
      let p : Behind c b (places session.stops) went.h went.stands = walks_behind c b (places session.stops) went.h went.stands mid run event here (subst (λ (x : Standing). Walks b.texts (places session.stops) x went.h went.stands) is went.walks) in
      goes_on session new went.plain (length (output n.world.trail)) (b.texts ∷ []) i c p.0 went.h went.stands text p.1 p.3 (changed_placed c p.0 b (ap (λ (x : Course). x.build) p.1.same) p.4 placed refl)
      (ap (λ (x : Build). x.texts) p.2) (ap (λ (x : Build). x.image) p.2) went.tells went.follows

  -- ---- the run that goes on in a session

  none_left : (past : List (List Present)) (modules : List Present) → drop (length past) (versions_by true past modules) ≡ texts modules ∷ []
  none_left [] modules = refl
  none_left (p ∷ ps) modules = none_left ps modules

  left_now : (past : List (List Present)) (come : ℕ) (modules : List Present) → come ≡ length past → drop come (versions_by true past modules) ≡ texts modules ∷ []
  left_now past come modules e = ap (λ n. drop n (versions_by true past modules)) e ∙ none_left past modules

  nothing_left : (come : ℕ) (vs : List (List Text)) → vs ≡ [] → drop come vs ≡ []
  nothing_left zero vs e = e
  nothing_left (suc come) vs e = ap (λ xs. drop (suc come) xs) e

  module _ (old new : Plain) where
    abbrev pub Goes : Option Course → List ℕ → Type 0
    Goes run text = (after : Option Course) × GoesFrom at old run text after × Keeps at new after

    unfollowed : (run : Option Course) (text : List ℕ) → run ≡ None → Goes run text
    unfollowed run text e = subst (λ r. Goes r text) (sym e) (None, refl, none_keeps new)

    -- the standing m in its state, from which these texts lead to n
    told_from : (c : Course) (m n : Standing) (text : List ℕ) → MixedIn old.state m → MixedGoneThrough (versions_left old) m n → (vs : List (List Text)) → versions_left old ≡ vs → Onward (length (output n.world.trail)) (drop 1 vs) m.image c text new → Goes (Some c) text
    told_from c m n text stood through vs is p =
        (p.0, (m, n, stood, through, subst (λ x. IsTold at (length (output n.world.trail)) (drop 1 x) m.image c text p.0) (sym is) p.1), p.2)

    paused_goes : (c : Course) (m n : Standing) (text : List ℕ) → IsRun c → ArePlaced at (c.build ∷ c.later) → StandsNow old.modules c m → MixedIn old.state m → (vs : List (List Text)) → versions_left old ≡ vs → n ≡ m → MixedGoneThrough (versions_left old) m n → drop 1 vs ≡ [] → Walked old n text new → Goes (Some c) text
    paused_goes c m n text run placed now stood vs is same through none went =
        told_from c m n text stood through vs is
        (subst (λ ts. Onward (length (output n.world.trail)) ts m.image c text new) (sym none)
        (goes_here old new (length (output n.world.trail)) m.image c Nothing n text run (λ event. absurd event) placed now.texts (sym (ap (λ (x : Standing). x.image) now.at)) (same ∙ now.at) refl went))

    through_by : (vs : List (List Text)) (m n : Standing) → versions_left old ≡ vs → MixedGoneThrough (versions_left old) m n → MixedGoneThrough vs m n
    through_by vs m n is through = subst (λ x. MixedGoneThrough x m n) is through

    stopped_goes : (c : Course) (m n : Standing) (text : List ℕ) → IsRun c → ArePlaced at (c.build ∷ c.later) → IsEvent c.place.now → (left : versions_left old ≡ drop old.come (versions_by true old.past old.modules)) → Waits old.past old.come old.modules c m → MixedIn old.state m → MixedGoneThrough (versions_left old) m n → Walked old n text new → Goes (Some c) text
    stopped_goes c m n text run placed event left (inl (come, now)) stood through went =
        let is = left ∙ left_now old.past old.come old.modules come in
        paused_goes c m n text run placed now stood (texts old.modules ∷ []) is (through_by (texts old.modules ∷ []) m n is through) through refl went
    stopped_goes c m n text run placed event left (inr one) stood through went =
        let is = left ∙ one.left in
        let vs : List (List Text) = c.present.texts ∷ texts old.modules ∷ [] in
        let same : m.image ≡ one.image = ap (λ (x : Standing). x.image) one.at in
        told_from c m n text stood through vs is
        (goes_there old new m.image c m n text run event placed (one.at ∙ ap (λ i. standing_at i c.place) (sym same)) (through_by vs m n is through) went)

    by_state : (s : State) (run : Option Course) (m n : Standing) (text : List ℕ) → old.state ≡ s → MixedIn s m → MixedGoneThrough (versions_left old) m n → (old.evaluating ≡ None → Walked old n text new) → FollowsIn at old.evaluating old.past old.come old.modules s run → Goes run text
    by_state state.Idle run m n text is stood through went f = absurd stood
    by_state (state.Stopped r) run m n text is stood through went f = absurd stood
    by_state (state.Paused r) run m n text is stood through went f = absurd stood
    by_state state.Ended run m n text is stood through went f = absurd stood
    by_state (state.StoppedMixed q) run m n text is stood through went (inl none) = unfollowed run text none
    by_state (state.StoppedMixed q) run m n text is stood through went (inr (plain, (c, f, event, waits))) =
        subst (λ r. Goes r text) (sym f.is)
        (stopped_goes c m n text f.runs f.placed event (ap (λ s. drop old.come (versions_by (stays s) old.past old.modules)) is)
        (subst (λ (x : Standing). Waits old.past old.come old.modules c x) (sym stood) waits) (subst (λ s. MixedIn s m) (sym is) stood) through (went plain))
    by_state (state.PausedMixed q) run m n text is stood through went (inl none) = unfollowed run text none
    by_state (state.PausedMixed q) run m n text is stood through went (inr (plain, (c, f, now))) =
        let left : versions_left old ≡ [] = ap (λ s. drop old.come (versions_by (stays s) old.past old.modules)) is ∙ nothing_left old.come [] refl in
        subst (λ r. Goes r text) (sym f.is)
        (paused_goes c m n text f.runs f.placed (subst (λ (x : Standing). StandsNow old.modules c x) (sym stood) now) (subst (λ s. MixedIn s m) (sym is) stood) [] left (through_by [] m n left through) through refl (went plain))

  -- ---- where no memory was left, and `stepi`

  given_up : (session new : Plain) (run : Option Course) → Keeps at session run → IsGivenUp session new → (after : Option Course) × Stays run after × Keeps at new after
  given_up session new run k (inl e) = (run, inl refl, moved session new run e k)
  given_up session new run k (inr e) = (None, inr refl, none_keeps new)

  cut : (First : List ℕ → Type 0) (session new : Plain) (front : List ℕ) (run : Option Course) → Keeps at session run → IsCutOff First session front new → (after : Option Course) × Stays run after × Keeps at new after
  cut First session new front run k (inl (none, e)) = (run, inl refl, moved session new run e k)
  cut First session new front run k (inr (first, e)) = (None, inr refl, none_keeps new)

  -- ---- the modules change

  two_left : (past : List (List Present)) (modules new : List Present) → drop (length past) (versions_by true (past ++ modules ∷ []) new) ≡ texts modules ∷ texts new ∷ []
  two_left [] modules new = refl
  two_left (p ∷ ps) modules new = two_left ps modules new

  left_two : (past : List (List Present)) (come : ℕ) (modules new : List Present) → come ≡ length past → drop come (versions_by true (past ++ modules ∷ []) new) ≡ texts modules ∷ texts new ∷ []
  left_two past come modules new e = ap (λ n. drop n (versions_by true (past ++ modules ∷ []) new)) e ∙ two_left past modules new

  none_kept : (vs : List (List Text)) (run : Option Course) → run ≡ None → kept_by vs run ≡ None
  none_kept [] run e = e
  none_kept (v ∷ vs) run e = refl

  no_run : (t : Option Text) (past : List (List Present)) (come : ℕ) (modules : List Present) (s : State) (run : Option Course) → run ≡ None → FollowsIn at t past come modules s run
  no_run t past come modules s run e = subst (λ r. FollowsIn at t past come modules s r) (sym e) (none_follows t past come modules s)

  one_more : (t : Option Text) → t ≡ None → (Is : Image → Type 0) (b : Bool) (past : List (List Present)) (come : ℕ) (modules new : List Present) (m : Standing) (s : State) (run : Option Course) (i : Image) → FollowsThere at past come modules m run → s ≡ state.StoppedMixed (record m { image = i })
      → FollowsIn at t (past ++ modules ∷ []) come new s (kept_by (drop 1 (drop come (versions_by true past modules))) run)
  one_more t plain Is b past come modules new m s run i (c, f, event, inl (none, now)) e =
      subst (λ x. FollowsIn at t (past ++ modules ∷ []) come new x (kept_by (drop 1 (drop come (versions_by true past modules))) run)) (sym e)
      (subst (λ vs. FollowsIn at t (past ++ modules ∷ []) come new (state.StoppedMixed (record m { image = i })) (kept_by (drop 1 vs) run)) (sym (left_now past come modules none))
      (inr (
        plain,
        (
          c,
          f,
          event,
          inr (record {
            image = i;
            left = left_two past come modules new none ∙ ap (λ (ts : List Text). ts ∷ texts new ∷ []) (sym now.texts);
            at = ap (λ (x : Standing). record x { image = i }) now.at;
          }),
        ),
      )))
  one_more t plain Is b past come modules new m s run i (c, f, event, inr one) e =
      subst (λ vs. FollowsIn at t (past ++ modules ∷ []) come new s (kept_by (drop 1 vs) run)) (sym one.left) (none_follows t (past ++ modules ∷ []) come new s)

  relinked : (t : Option Text) (Is : Image → Type 0) (b : Bool) (past : List (List Present)) (come : ℕ) (modules new : List Present) (old s : State) (run : Option Course) → FollowsIn at t past come modules old run → Relinks Is b (state_with (stays old) old) s
      → FollowsIn at t (past_with (stays old) past modules) (come_with (stays old) come) new s (kept_at (stays old) (drop 1 (drop come (versions_by (stays old) past modules))) run)
  relinked t Is b past come modules new state.Idle s run f e = none_follows t [] 0 new s
  relinked t Is b past come modules new (state.Stopped r) s run f e = no_run t (past ++ modules ∷ []) come new s _ (none_kept (drop 1 (drop come (versions_by true past modules))) run f)
  relinked t Is b past come modules new (state.Paused r) s run f e = none_follows t [] 0 new s
  relinked t Is b past come modules new (state.StoppedMixed m) s run (inl none) (i, is, e) = no_run t (past ++ modules ∷ []) come new s _ (none_kept (drop 1 (drop come (versions_by true past modules))) run none)
  relinked t Is b past come modules new (state.StoppedMixed m) s run (inr (plain, f)) (i, is, e) = one_more t plain Is b past come modules new m s run i f e
  relinked t Is b past come modules new (state.PausedMixed m) s run f e = none_follows t [] 0 new s
  relinked t Is b past come modules new state.Ended s run f e = none_follows t [] 0 new s

  -- ---- the commands

  module _ (old : Moment) (run : Option Course) (k : Keeps at old.session run) where
    abbrev pub WalkTellsBy : Bool → Answer → Option Course → Type 0
    WalkTellsBy b (answer.Ran text) after = WalksSoBy b at old.session run text after
    WalkTellsBy b _ after = Stays run after

    mixed_walks : (how : Walk) (said : Answer) (new : Plain) → MixedWalks old.session how said new → (after : Option Course) × WalkTellsBy true said after × Keeps at new after
    mixed_walks how (answer.Ran text) new (m, stood, (n, through, went)) = by_state old.session new old.session.state run m n text refl stood through (λ plain. went_walked old.session new how n text plain went) k
    mixed_walks how answer.NoMemory new p = given_up old.session new run k p
    mixed_walks how _ new p = absurd p

    plain_walks : (how : Walk) (front : List ℕ) (said : Answer) (new : Plain) → going.Walks old.session how front said new → (after : Option Course) × WalkTellsBy false said after × Keeps at new after
    plain_walks how front (answer.Ran text) new p = (None, refl, none_keeps new)
    plain_walks how front answer.NoMemory new p = cut (going.WalkFirst old.session how) old.session new front run k p
    plain_walks how front _ new p = absurd p

    walks_by : (b : Bool) (how : Walk) (front : List ℕ) (said : Answer) (new : Plain) → WalksBy b old.session how front said new → (after : Option Course) × WalkTellsBy b said after × Keeps at new after
    walks_by false how front said new p = plain_walks how front said new p
    walks_by true how front said new p = mixed_walks how said new p.1

    walk_told : (said : Answer) (after : Option Course) → WalkTellsBy (is_mixed old.session.state) said after → WalkTells at old run said after
    walk_told (answer.Ran text) after p = p
    walk_told _ after p = p

    walks : (how : Walk) (front : List ℕ) (said : Answer) (new : Plain) → WalksBy (is_mixed old.session.state) old.session how front said new → (after : Option Course) × WalkTells at old run said after × Keeps at new after
    walks how front said new p =
        let t = walks_by (is_mixed old.session.state) how front said new p in
        (t.0, walk_told said t.0 t.1, t.2)

    single_by : (b : Bool) → is_mixed old.session.state ≡ b → (said : Answer) (new : Plain) → CarriesOne old.session said new → (after : Option Course) × WalkTellsBy b said after × Keeps at new after
    single_by true is (answer.Ran text) new (m, stood, (n, through, went)) = by_state old.session new old.session.state run m n text refl stood through (λ plain. single_walked old.session new n text plain went) k
    single_by false is (answer.Ran text) new p = (None, refl, none_keeps new)
    single_by b is answer.NoMemory new p = given_up old.session new run k p
    single_by b is _ new p = absurd p

    single : (said : Answer) (new : Plain) → CarriesOne old.session said new → (after : Option Course) × WalkTells at old run said after × Keeps at new after
    single said new p =
        let t = single_by (is_mixed old.session.state) refl said new p in
        (t.0, walk_told said t.0 t.1, t.2)

    same_session : (new : Moment) → new ≡ old → (after : Option Course) × (after ≡ run) × Keeps at new.session after
    same_session new e = (run, refl, moved old.session new.session run (ap (λ m. m.session) e) k)

    same_plain : (new : Plain) → new ≡ old.session → (after : Option Course) × (after ≡ run) × Keeps at new after
    same_plain new e = (run, refl, moved old.session new run e k)

    -- the modules changed, and the run stays or not
    changes : (session new : Plain) → Becomes session new → session.past ≡ past_with (stays old.session.state) old.session.past old.session.modules → session.come ≡ come_with (stays old.session.state) old.session.come
        → session.state ≡ state_with (stays old.session.state) old.session.state → session.evaluating ≡ old.session.evaluating → (after : Option Course) × (after ≡ changed_run old.session run) × Keeps at new after
    changes session new (s, relinks, e) past come is valued =
        let b : Bool = are_sources (texts session.modules) in
        let after : Option Course = changed_run old.session run in
        let there = relinked old.session.evaluating (IsImageOver session.past session.modules session.numbers) b old.session.past old.session.come old.session.modules session.modules old.session.state s run k
        (subst (λ x. Relinks (IsImageOver session.past session.modules session.numbers) b x s) is relinks) in (
          after,
          refl,
          moved (in_state s session) new after e
              (subst (λ t. FollowsIn at t session.past session.come session.modules s after) (sym valued)
              (subst (λ x. FollowsIn at old.session.evaluating x session.come session.modules s after) (sym past)
              (subst (λ x. FollowsIn at old.session.evaluating (past_with (stays old.session.state) old.session.past old.session.modules) x session.modules s after) (sym come) there))),
        )

    abbrev pub Changed : Answer → Plain → Type 0
    Changed said new = (after : Option Course) × ChangeTells old run said after × Keeps at new after

    loads : (name file : List ℕ) (said : Answer) (new : Moment) → Loads old name file said new → Changed said new.session
    loads name file (answer.Loaded m) new (is, (built, fits, becomes, held)) = changes (joined old.session built) new.session becomes refl refl refl refl
    loads name file (answer.Refused d) new (leaves, why) = same_plain new.session leaves.0
    loads name file answer.NoMemory new leaves = same_plain new.session leaves.0
    loads name file _ new p = absurd p

    edits : (name file : List ℕ) (said : Answer) (new : Moment) → Edits old name file said new → Changed said new.session
    edits name file (answer.Edited m) new (is, (built, fits, becomes, held)) = changes (replaced old.session built) new.session becomes refl refl refl refl
    edits name file (answer.Refused d) new (leaves, why) = same_plain new.session leaves.0
    edits name file answer.NoMemory new leaves = same_plain new.session leaves.0
    edits name file _ new p = absurd p

    swaps : (name : List ℕ) (f : Form) (c : Choice) (said : Answer) (new : Moment) → Swaps old name f c said new → Changed said new.session
    swaps name f c (answer.Swapped m g) new (plain, is, same, may, becomes, held) = changes (swapped old.session name f c) new.session becomes refl refl refl refl
    swaps name f c (answer.SwappedFast m) new (fast, is, may, becomes, held) = changes (swapped old.session name f c) new.session becomes refl refl refl refl
    swaps name f c (answer.Refused d) new (is, leaves, why) = same_plain new.session leaves.0
    swaps name f c answer.NoMemory new leaves = same_plain new.session leaves.0
    swaps name f c _ new p = absurd p

    unloads : (name : List ℕ) (said : Answer) (new : Plain) → Unloads old.session name said new → Changed said new
    unloads name (answer.Unloaded m) new (is, becomes) = changes (unloaded old.session name) new becomes refl refl refl refl
    unloads name answer.NoMemory new e = same_plain new e
    unloads name _ new p = absurd p

    sets : (place : StopAt) (said : Answer) (new : Plain) → Sets old.session place said new → Keeps at new run
    sets place (answer.StopSet n q) new (number, same, e) = moved (with_stop old.session place) new run e k
    sets place answer.NoMemory new e = moved old.session new run e k
    sets place _ new p = absurd p

    drops : (n : ℕ) (said : Answer) (new : Plain) → Drops n old.session said new → Keeps at new run
    drops n (answer.Dropped m) new (is, e) = moved (without_probe old.session) new run e k
    drops n answer.NoMemory new e = moved old.session new run e k
    drops n _ new p = absurd p

  -- ---- the start of a run

  unended_follows : (t : Option Text) (past : List (List Present)) (come : ℕ) (modules : List Present) (s : State) (run : Option Course) → FollowsIn at t past come modules s run → FollowsIn at (evaluating_going (is_over s) t) (past_going (is_over s) past) (come_going (is_over s) come) modules (unended s) run
  unended_follows t past come modules state.Idle run f = f
  unended_follows t past come modules (state.Stopped r) run f = f
  unended_follows t past come modules (state.Paused r) run f = f
  unended_follows t past come modules (state.StoppedMixed m) run f = f
  unended_follows t past come modules (state.PausedMixed m) run f = f
  unended_follows t past come modules state.Ended run f = f

  asked_keeps : (c : Command) (session : Plain) (run : Option Course) → Keeps at session run → Keeps at (asked c session) run
  asked_keeps (command.Run file) session run k = unended_follows session.evaluating session.past session.come session.modules session.state run k
  asked_keeps _ session run k = k

  -- a run that begins by `run` is no evaluation
  begins_plain : (s : State) (t : Option Text) → starting (unended s) ≡ None → evaluating_going (is_over s) t ≡ None
  begins_plain state.Idle t e = refl
  begins_plain (state.Stopped r) t e = absurd (cc)
  begins_plain (state.Paused r) t e = absurd (cc)
  begins_plain (state.StoppedMixed m) t e = absurd (cc)
  begins_plain (state.PausedMixed m) t e = absurd (cc)
  begins_plain state.Ended t e = refl

  abbrev pub anew : Moment → Moment
  anew old = moment (forgotten old.session) old.held old.faults

  -- what is told where it is not over at once
  starts_plain : (session : Plain) (bytes : List ℕ) (m : Standing) → session.evaluating ≡ None → MixedStarts session main_key bytes m → Starts (texts session.modules) m.image main_key session.limits.stack session.limits.heap bytes m
  starts_plain session bytes m plain starts =
      subst (λ t. Starts (with_evaluation t (texts session.modules)) m.image main_key session.limits.stack session.limits.heap bytes m) plain
      (subst (λ x. Starts (going_texts session) x main_key session.limits.stack session.limits.heap bytes m) (sym starts.starts.image) starts.starts)

  first_goes : (session new : Plain) (bytes : List ℕ) (m : Standing) (text : List ℕ) → session.evaluating ≡ None → MixedStarts session main_key bytes m → MixedWent session walk.Cont m text new → (s : Stand) → m.course ≡ s → (after : Option Course) × GoesFirst at session bytes m s text after × Keeps at new after
  first_goes session new bytes m text plain starts went (On next now) on =
      let i : Image = m.image in
      let begun = starts_plain session bytes m plain starts in
      let r = starts_run (texts session.modules) i main_key session.limits.stack session.limits.heap bytes (at i) m next now begun on in
      let c : Course = begun_course (texts session.modules) i main_key session.limits.stack session.limits.heap bytes (at i) r.0 r.1 (record { next = next; calls = m.calls; world = m.world; now = now }) in
      let o = goes_here session new 0 i c now m text r.2.0 (λ event. refl) (refl, tt) refl refl r.2.1 (ap (λ (x : List ℕ). length x) starts.empty) (went_walked session new walk.Cont m text plain went) in
      (o.0, (r.0, r.1, o.1), o.2)
  first_goes session new bytes m text plain starts went (Over end) on = (None, refl, none_keeps new)

  module _ (old : Moment) (run : Option Course) (k : Keeps at (forgotten old.session) run) (plain : (forgotten old.session).evaluating ≡ None) where
    abbrev pub RunTellsBy : Bool → Option (List ℕ) → Answer → Option Course → Type 0
    RunTellsBy b file (answer.Ran text) after = RunsSoBy b at old file text after
    RunTellsBy b file _ after = Stays run after

    plain_run : (file : Option (List ℕ)) (front : List ℕ) (said : Answer) (new : Moment) → Runs (anew old) file front said new → (after : Option Course) × RunTellsBy true file said after × Keeps at new.session after
    plain_run file front (answer.Ran text) new p = (None, refl, none_keeps new.session)
    plain_run file front (answer.Refused d) new (none, leaves, why) = (run, inl refl, moved (anew old).session new.session run leaves.0 k)
    plain_run file front answer.NoMemory new (held, p) = cut (RunFirst (anew old) file) (anew old).session new.session front run k p
    plain_run file front _ new p = absurd p

    mixed_run : (file : Option (List ℕ)) (said : Answer) (new : Moment) → MixedRuns (anew old) file said new → (after : Option Course) × RunTellsBy false file said after × Keeps at new.session after
    mixed_run file (answer.Ran text) new (held, main, (bytes, input, (m, starts, went))) =
        let o = first_goes (anew old).session new.session bytes m text plain starts went m.course refl in
        let image : starts.image ≡ m.image = sym starts.starts.image in (
          o.0,
          (
            bytes,
            input,
            (
              m,
              subst (λ x. IsImage old.session.modules old.session.numbers x) image starts.links,
              starts_plain (anew old).session bytes m plain starts,
              o.1,
            ),
          ),
          o.2,
        )
    mixed_run file (answer.Refused d) new p = (run, inl refl, moved (anew old).session new.session run p.0.0 k)
    mixed_run file answer.NoMemory new (held, up) = given_up (anew old).session new.session run k up
    mixed_run file _ new p = absurd p

    run_by : (b : Bool) (file : Option (List ℕ)) (front : List ℕ) (said : Answer) (new : Moment) → RunsBy b (anew old) file front said new → (after : Option Course) × RunTellsBy b file said after × Keeps at new.session after
    run_by true file front said new p = plain_run file front said new p
    run_by false file front said new p = mixed_run file said new p.1

    run_told : (file : Option (List ℕ)) (said : Answer) (after : Option Course) → RunTellsBy (are_sources (texts old.session.modules)) file said after → RunTells at old run file said after
    run_told file (answer.Ran text) after p = p
    run_told file _ after p = p

    runs : (file : Option (List ℕ)) (front : List ℕ) (said : Answer) (new : Moment) → RunsBy (are_sources (texts old.session.modules)) (anew old) file front said new → (after : Option Course) × RunTells at old run file said after × Keeps at new.session after
    runs file front said new p =
        let t = run_by (are_sources (texts old.session.modules)) file front said new p in
        (t.0, run_told file said t.0 t.1, t.2)

  evals : (session new : Plain) (run : Option Course) → Keeps at session run → (name line front : List ℕ) (said : Answer) → Evaluates session name line front said new → (after : Option Course) × EvalTells run said after × Keeps at new after
  evals session new run k name line front (answer.Ran text) p = (None, refl, none_keeps new)
  evals session new run k name line front _ (inl (none, e, why)) = (run, inl refl, moved session new run e k)
  evals session new run k name line front _ (inr p) = (None, inr refl, none_keeps new)

  -- ---- each command

  abbrev pub TellsOn : Moment → Option Course → Command → Answer → Plain → Type 0
  TellsOn old run c said session = (after : Option Course) × Tells at old run c said after × Keeps at session after

  carried : (old : Moment) (run : Option Course) → Keeps at old.session run → (c : Command) (front : List ℕ) (said : Answer) (new : Moment) → refusal_of (asked c old.session) c ≡ None → Keeps at (asked c old.session) run → Carried (moment (asked c old.session) old.held old.faults) c front said new → TellsOn old run c said new.session
  carried old run k command.Nothing front said new free a (none, p) = same_session old run k new p.1
  carried old run k (command.Load name) front said new free a (none, p) = loads old run k name (file_of name) said new p
  carried old run k (command.Unload name) front said new free a (none, p) = unloads old run k name said new.session p.0
  carried old run k (command.Swap name form) front said new free a (none, p) = swaps old run k name form choice.Plain said new p
  carried old run k (command.SwapFast name) front said new free a (none, p) = swaps old run k name form.Object choice.Fast said new p
  carried old run k (command.Edit name file) front said new free a (none, p) = edits old run k name (file_or name file) said new p
  carried old run k (command.Run file) front said new free a p = runs old run a (begins_plain old.session.state old.session.evaluating free) file front said new p
  carried old run k (command.Eval name line) front said new free a p = evals old.session new.session run k name line front said p.0
  carried old run k (command.Stop place) front said new free a (none, p) = (run, refl, sets old run k place said new.session p.0)
  carried old run k (command.Delete n) front said new free a (none, p) = (run, refl, moved (without_stop n old.session) new.session run p.1 k)
  carried old run k (command.Compile name) front said new free a (none, p) = (run, refl, moved old.session new.session run p.0 k)
  carried old run k (command.CompileFast name) front said new free a (none, p) = (run, refl, moved old.session new.session run p.0 k)
  carried old run k command.Step front said new free a p = walks old run k walk.Step front said new.session p.0
  carried old run k command.Next front said new free a p = walks old run k walk.Next front said new.session p.0
  carried old run k command.Cont front said new free a p = walks old run k walk.Cont front said new.session p.0
  carried old run k command.StepOne front said new free a (none, p, files) = single old run k said new.session p
  carried old run k command.Frames front said new free a (none, p) = same_session old run k new p.1
  carried old run k (command.Print name) front said new free a (none, p) = same_session old run k new p.1
  carried old run k command.Machine front said new free a (none, p) = same_session old run k new p.1
  carried old run k (command.Disas home fun) front said new free a (none, p) = same_session old run k new p.1
  carried old run k (command.Xref name) front said new free a (none, p) = same_session old run k new p.1
  carried old run k (command.Whatis name) front said new free a (none, p) = same_session old run k new p.1
  carried old run k command.List front said new free a (none, p) = same_session old run k new p.1
  carried old run k (command.Report n) front said new free a (none, p) = same_session old run k new p.1
  carried old run k (command.Drop n) front said new free a (none, p) = (run, refl, drops old run k n said new.session p.0)
  carried old run k command.Reset front said new free a (none, p) = (None, inr refl, moved (at_rest old.session) new.session None p.1 refl)
  carried old run k command.Quit front said new free a (none, p) = (run, refl, moved (record old.session { over = true }) new.session run p.1 k)
  carried old run k command.Unknown front said new free a (none, p) = absurd p
  carried old run k command.BadArguments front said new free a (none, p) = absurd p

  decided : (o : Option Denied) (old : Moment) (run : Option Course) → Keeps at old.session run → (c : Command) (front : List ℕ) (said : Answer) (new : Moment) → refusal_of (asked c old.session) c ≡ o → Decides o (moment (asked c old.session) old.held old.faults) c front said new → TellsOn old run c said new.session
  decided (Some d) old run k c front said new told (none, is, same) = (
    run,
    subst (λ a. Tells at old run c a run) (sym is) (refused old run c d),
    moved (asked c old.session) new.session run (ap (λ m. m.session) same) (asked_keeps c old.session run k),
  )
  decided None old run k c front said new told p = carried old run k c front said new told (asked_keeps c old.session run k) p

  pub answers_tell : (old : Moment) (run : Option Course) (c : Command) (front : List ℕ) (said : Answer) (new : Moment) → Keeps at old.session run → AnswersTo old c front said new → TellsOn old run c said new.session
  answers_tell old run c front said new k p = decided (refusal_of (asked c old.session) c) old run k c front said new refl p

  pub nothing_yet : (limits : Limits) (probes : ℕ) → Keeps at (empty limits probes) None
  nothing_yet limits probes = refl
