-- What the answers to commands tell of a session's run.
use Rattle.std.proofs.Common.{◌≡◌, inl, inr, ℕ, zero, suc, ◌+◌, ◌≤◌, ◌&&◌, Bool, true, false, if◌then◌else◌, List, [], ◌∷◌, ◌++◌, drop, length, refl, ◌∙◌, sym, ap, subst, arith, Option, Some, None, is_some}
use Rattle.std.specs.List.{filter}
use Rattle.std.proofs.lemmas.List.{length-append}
use Rattle.std.specs.Str.{bytes_eq}
use Rattle.std.proofs.lemmas.Slice.Eq.{bytes_eq-Decides}
use Rattle.sc_base.specs.declared.key.Key.{Key}
use Rattle.sc_base.specs.declared.memory.Form.{Form}
use Rattle.sc_base.specs.declared.memory.Form.TheVariants.{Source}
use Rattle.sc_core.specs.declared.module.Core.{Core}
use Rattle.sc_core.specs.declared.module.Fun.{Fun}
use Rattle.sc_core.specs.Modules.{function_of}
use Rattle.sc_eval.specs.Starts.{Starts}
use Rattle.sc_eval.specs.Texts.{eval_name}
use Rattle.sc_eval.specs.declared.starting.Evaluation.{Evaluation}
use Rattle.sc_lex.specs.declared.token.Token.{Token}
use Rattle.sc_base.specs.declared.memory.Form.TheVariants as form
use Rattle.sc_session.specs.declared.choice.Choice.{Choice}
use Rattle.sc_session.specs.declared.choice.Choice.TheVariants as choice
use Rattle.sc_core_formed.specs.Modules.{formed}
use Rattle.sc_meaning.specs.Versions.{Text, Callee, InLibrary, InText, Missing, callee_of, fun_by, if_external, library_callee, or_later, version_at}
use Rattle.sc_meaning.specs.declared.library.LibFun.{LibFun}
use Rattle.sc_meaning.specs.World.{World, Event, Enter, Leave, At, Out}
use Rattle.sc_meaning.specs.Behaviour.{Start, events_upto, main_key}
use Rattle.sc_meaning.specs.Laws.{with_history}
use Rattle.sc_isa_image.specs.declared.image.Image.{Image}
use Rattle.sc_interp.specs.Ends.{start_of}
use Rattle.sc_interp.specs.Steady.{alone}
use Rattle.sc_interp.proofs.Unchanged.{present}
use Rattle.sc_interp_laws.specs.Lean.{AreLean, LeanCallee, LeanStmt}
use Rattle.sc_words.specs.declared.answer.Answer.{Answer}
use Rattle.sc_words.specs.declared.answer.Answer.TheVariants as answer
use Rattle.sc_words.specs.declared.command.Command.{Command}
use Rattle.sc_words.specs.declared.command.Command.TheVariants as command
use Rattle.sc_words.specs.declared.denied.Denied.{Denied}
use Rattle.sc_words.specs.declared.stop.StopAt.{StopAt}
use Rattle.sc_mixed.specs.Standing.{Standing as Mixed}
use Rattle.sc_words.specs.declared.stop.Walk.{Walk}
use Rattle.sc_words.specs.declared.stop.Walk.TheVariants as walk
use Rattle.sc_world.specs.Goes.{started}
use Rattle.sc_world.specs.Changing.{changed_run, changed_standing}
use Rattle.sc_world.specs.Standing.{Standing, world_of}
use Rattle.sc_world_change_laws.specs.Still.{IsStill}
use Rattle.sc_world_change_laws.specs.Through.{with_version}
use Rattle.sc_world_change_laws.proofs.Still.{still, still_at, still_here, still_lean, still_on}
use Rattle.sc_world_change_laws.proofs.Through.{begins_through, change_behind, change_through}
use Rattle.sc_world_laws.specs.Formed.{AreFormed}
use Rattle.sc_world_laws.specs.Halts.{first_of}
use Rattle.sc_world_laws.specs.Told.{HaltsAt, IsFirst, selects}
use Rattle.sc_world_laws.proofs.LeanFormed.{formed_lean}
use Rattle.sc_world_laws.proofs.Pausing.{starts_lean}
use Rattle.sc_world.specs.declared.halt.Halt.{Halt}
use Rattle.sc_world.specs.declared.halt.Halt.TheVariants as halt
use Rattle.sc_session_conflicts.specs.Clashes.{is_other}
use Rattle.sc_session_forms.specs.Forms.{are_sources}
use Rattle.sc_session.specs.declared.limits.Limits.{Limits}
use Rattle.sc_session.specs.declared.state.State.{State}
use Rattle.sc_session.specs.declared.state.State.TheVariants as state
use Rattle.sc_session.specs.Plain.{Plain}
use Rattle.sc_session.specs.Changing.{all_texts, at_rest, caught_up, come_going, come_with, evaluating_going, forgotten, gone_through, is_over, past_going, past_with, settled, state_with, stays, through, unended, versions_by}
use Rattle.sc_session.specs.States.{if_absent, or_else, refusal_of, starting, stepping}
use Rattle.sc_session.specs.Loading.{in_place, with_module, file_of, file_or}
use Rattle.sc_session.specs.Modules.{texts, present_of}
use Rattle.sc_session.specs.declared.present.Present.{Present}
use Rattle.sc_session.specs.Stopping.{Sets, places, with_stop, without_stop}
use Rattle.sc_session.specs.Linking.{with_form}
use Rattle.sc_session.specs.Evaluating as evaluation
use Rattle.sc_session.specs.Evaluating.{Asks, Evaluates, Unevaluated, eval_key, text_of, with_text}
use Rattle.sc_session.specs.Mixing.{is_mixed, mixed_state, Becomes, GoesOver, MixedBegins, MixedWalks, MixedWent, Relinks, WalksBy}
use Rattle.sc_session.specs.Placing.{IsImageOver}
use Rattle.sc_session.specs.Going as going
use Rattle.sc_session.specs.Going.{in_state, IsCutOff, IsGivenUp, cut_off, RunsIn, Went}
use Rattle.sc_session.specs.Probing.{Drops, without_probe}
use Rattle.sc_session.specs.Single.{CarriesOne, SingleWent, single_state}
use Rattle.sc_session.specs.Transcript.{Moment, moment, empty, Loads, Edits, Swaps, joined, replaced, unloaded, swapped, asked, Unloads, RunFirst, Runs, MixedRuns, RunsBy, Carried, Decides, AnswersTo}
use Rattle.sc_session.specs.Valued.{going_stops, going_texts, is_valued, stops_by, with_evaluation}
use Rattle.sc_session_laws.specs.Courses.{Begins, ChangesSo, ChangeTells, Course, EvalTells, EvaluatesSoBy, Stays, Stands, StandsIn, StandsSo, changed_by, changed_course, RunsSoBy, WalksSoBy, RunTells, WalkTells, Tells, IsTold}
use Rattle.sc_session_laws.specs.Follows.{behind_changes, course_of, Follows, FollowsIn, FollowsOn, FollowsThere, Keeps, LeanText}
use Rattle.sc_session_laws.proofs.Going.{IsBehind, begins, went}
use Rattle.sc_session_laws.proofs.Starting.{no_internal, no_library, starts_fresh}
use Rattle.sc_session_laws.proofs.Working.{change_earned, starts_earned}

-- ---- the modules stay checked

with_formed : (ps : List Present) (new : Present) → AreFormed (texts ps) → formed new.text.core ≡ true → AreFormed (texts (with_module ps new))
with_formed [] new p e = (e, tt)
with_formed (q ∷ qs) new p e = (p.0, with_formed qs new p.1 e)

either_formed : (b : Bool) (q new : Present) (ps later : List Present) → AreFormed (texts (q ∷ later)) → AreFormed (texts (new ∷ ps)) → AreFormed (texts (if b then q ∷ later else new ∷ ps))
either_formed true q new ps later h g = h
either_formed false q new ps later h g = g

in_formed : (ps : List Present) (new : Present) → AreFormed (texts ps) → formed new.text.core ≡ true → AreFormed (texts (in_place ps new))
in_formed [] new p e = tt
in_formed (q ∷ qs) new p e = either_formed (is_other new.text.core q.text) q new qs (in_place qs new) (p.0, in_formed qs new p.1 e) (e, p.1)

one_formed : (b : Bool) (q : Present) (ps : List Present) → AreFormed (texts (q ∷ ps)) → AreFormed (texts (if b then q ∷ ps else ps))
one_formed true q ps p = p
one_formed false q ps p = p.1

kept_formed : (keep : Present → Bool) (ps : List Present) → AreFormed (texts ps) → AreFormed (texts (filter keep ps))
kept_formed keep [] p = tt
kept_formed keep (q ∷ qs) p = one_formed (keep q) q (filter keep qs) (p.0, kept_formed keep qs p.1)

-- a form of a module leaves what it was checked to be
present_formed : (b : Bool) (f : Form) (c : Choice) (p : Present) (ps : List Present) → formed p.text.core ≡ true → AreFormed (texts ps)
    → AreFormed (texts ((if b then record p { text = record p.text { form = f }; choice = c } else p) ∷ ps))
present_formed true f c p ps e h = (e, h)
present_formed false f c p ps e h = (e, h)

swapped_formed : (name : List ℕ) (f : Form) (c : Choice) (ps : List Present) → AreFormed (texts ps) → AreFormed (texts (with_form name f c ps))
swapped_formed name f c [] p = tt
swapped_formed name f c (q ∷ qs) p = present_formed (bytes_eq q.text.core.name name) f c q (with_form name f c qs) p.0 (swapped_formed name f c qs p.1)

-- ---- the run stays where it is, or is there no more

-- an answer that tells nothing of a go, and the session behind it
abbrev pub Tells_on : Moment → Option Course → Command → List ℕ → Answer → Plain → Type 0
Tells_on old run c front said session = (after : Option Course) × Tells old run c front said (texts session.modules) after × Keeps session after

same_run : (run : Option Course) → Stays run run
same_run run = inl refl

no_run : (run : Option Course) → Stays run None
no_run run = inr refl

moved : (session new : Plain) (run : Option Course) → new ≡ session → Keeps session run → Keeps new run
moved session new run e k = subst (λ s. Keeps s run) (sym e) k

-- a command that is refused leaves the run
refused : (old : Moment) (run : Option Course) (c : Command) (front : List ℕ) (d : Denied) (new : List Text) → Tells old run c front (answer.Refused d) new run
refused old run (command.Run file) front d new = same_run run
refused old run (command.Eval name line) front d new = same_run run
refused old run command.Step front d new = same_run run
refused old run command.Next front d new = same_run run
refused old run command.Cont front d new = same_run run
refused old run (command.Load name) front d new = same_run run
refused old run (command.Unload name) front d new = same_run run
refused old run (command.Edit name file) front d new = same_run run
refused old run (command.Swap name form) front d new = same_run run
refused old run (command.SwapFast name) front d new = same_run run
refused old run _ front d new = same_run run

-- nor does want of memory before it was carried out
pub tells_nothing : (old : Moment) (run : Option Course) (c : Command) (front : List ℕ) (new : List Text) → Tells old run c front answer.NoMemory new run
tells_nothing old run (command.Run file) front new = same_run run
tells_nothing old run (command.Eval name line) front new = same_run run
tells_nothing old run command.Step front new = same_run run
tells_nothing old run command.Next front new = same_run run
tells_nothing old run command.Cont front new = same_run run
tells_nothing old run (command.Load name) front new = same_run run
tells_nothing old run (command.Unload name) front new = same_run run
tells_nothing old run (command.Edit name file) front new = same_run run
tells_nothing old run (command.Swap name form) front new = same_run run
tells_nothing old run (command.SwapFast name) front new = same_run run
tells_nothing old run _ front new = same_run run

-- ---- versions that wait

through_more : (xs : List (List Text)) (x a b : List Text) (r : Option Standing) → through x (xs ++ a ∷ b ∷ []) r ≡ changed_run a b (through x (xs ++ a ∷ []) r)
through_more [] x a b r = refl
through_more (y ∷ ys) x a b r = through_more ys y a b (changed_run x y r)

gone_more : (xs : List (List Text)) (a b : List Text) (r : Option Standing) → gone_through (xs ++ a ∷ b ∷ []) r ≡ changed_run a b (gone_through (xs ++ a ∷ []) r)
gone_more [] a b r = refl
gone_more (x ∷ xs) a b r = through_more xs x a b r

all_more : (past : List (List Present)) (modules : List Present) (t : List Text) → all_texts (past ++ modules ∷ []) ++ t ∷ [] ≡ all_texts past ++ texts modules ∷ t ∷ []
all_more [] modules t = refl
all_more (p ∷ ps) modules t = ap (λ ts. texts p ∷ ts) (all_more ps modules t)

-- the versions that are left, before and behind one more
left_more : (come : ℕ) (past : List (List Present)) (modules new : List Present) → come ≤ length past → (xs : List (List Text))
    × ((drop come (versions_by true past modules) ≡ xs ++ texts modules ∷ []) × (drop come (versions_by true (past ++ modules ∷ []) new) ≡ xs ++ texts modules ∷ texts new ∷ []))
left_more zero past modules new le = (all_texts past, (refl, all_more past modules (texts new)))
left_more (suc come) [] modules new le = absurd (omega (arith, le))
left_more (suc come) (p ∷ ps) modules new le = left_more come ps modules new (omega (arith, le))

waits_more : (come : ℕ) (past : List (List Present)) (modules new : List Present) (r : Option Standing) → come ≤ length past → behind_changes (past ++ modules ∷ []) come new r ≡ changed_run (texts modules) (texts new) (behind_changes past come modules r)
waits_more come past modules new r le =
    let l = left_more come past modules new le in
    ap (λ vs. gone_through vs r) l.1.1 ∙ gone_more l.0 (texts modules) (texts new) r ∙ ap (λ vs. changed_run (texts modules) (texts new) (gone_through vs r)) (sym l.1.0)

-- none waits where all have come
none_left : (past : List (List Present)) (modules : List Present) → drop (length past) (versions_by true past modules) ≡ texts modules ∷ []
none_left [] modules = refl
none_left (p ∷ ps) modules = none_left ps modules

none_waits : (past : List (List Present)) (come : ℕ) (modules : List Present) (r : Option Standing) → come ≡ length past → behind_changes past come modules r ≡ r
none_waits past come modules r e = ap (λ n. gone_through (drop n (versions_by true past modules)) r) e ∙ ap (λ vs. gone_through vs r) (none_left past modules)

no_more : (n m : ℕ) → n ≡ m → n ≤ m
no_more n m e = omega (arith, e)

-- so a run that goes on in a state goes on in a session
follows_here : (past : List (List Present)) (come : ℕ) (modules : List Present) (s : State) (run : Option Course) → come ≡ length past → FollowsOn (texts modules) s run → FollowsIn None past come modules s run
follows_here past come modules state.Idle run e f = f
follows_here past come modules (state.Stopped r) run e f = (refl, no_more come (length past) e, subst (λ x. FollowsThere (texts modules) r x run) (sym (none_waits past come modules r e)) f)
follows_here past come modules (state.Paused r) run e f = f
follows_here past come modules (state.StoppedMixed w) run e f = f
follows_here past come modules (state.PausedMixed w) run e f = f
follows_here past come modules state.Ended run e f = f

-- a state is that of a run at a stop
abbrev IsAtStop : State → Type 0
IsAtStop s = (r : Option Standing) × (s ≡ state.Stopped r)

-- an evaluation is not
follows_valued : (t : Text) (past : List (List Present)) (come : ℕ) (modules : List Present) (s : State) (run : Option Course) → FollowsOn (texts modules ++ t ∷ []) s run → (IsAtStop s → ⊥) → FollowsIn (Some t) past come modules s run
follows_valued t past come modules state.Idle run f never = f
follows_valued t past come modules (state.Stopped r) run f never = absurd (never (r, refl))
follows_valued t past come modules (state.Paused r) run f never = f
follows_valued t past come modules (state.StoppedMixed w) run f never = f
follows_valued t past come modules (state.PausedMixed w) run f never = f
follows_valued t past come modules state.Ended run f never = f

none_selected : (sel : Event → Bool) → ((e : Event) → sel e ≡ false) → (es : List Event) → first_of sel es ≡ None
none_selected sel none [] = refl
none_selected sel none (e ∷ es) = rw (none e, none_selected sel none es) refl

unselected : (since : ℕ) (e : Event) → selects [] walk.Cont since e ≡ false
unselected since (Enter key home) = refl
unselected since Leave = refl
unselected since (At home line enter) = refl
unselected since (Out byte) = refl

no_first : (since : ℕ) (entry : Bool) (old all new : List Event) → IsFirst (selects [] walk.Cont since) entry old all new → ⊥
no_first since entry old all new (p, found, is, last) =
    let none : first_of (selects [] walk.Cont since) (drop (length old) all) ≡ None = none_selected (selects [] walk.Cont since) (unselected since) (drop (length old) all) in
    not_some p (sym none ∙ found)
  where
    not_some : (p : ℕ) → ◌≡◌ {A = Option ℕ} None (Some p) → ⊥
    not_some p e = absurd (cc)

-- a go without stops halts where the run is over or its turns were taken
never_stops : (h : Halt) (since : ℕ) (old all new : List Event) (s : State) → HaltsAt (selects [] walk.Cont since) h old all new → IsBehind h s → IsAtStop s → ⊥
never_stops halt.Entered since old all new s p b stop = no_first since true old all new p
never_stops halt.AtLine since old all new s p b stop = no_first since false old all new p
never_stops halt.Ended since old all new s p (x, b) (r, is) = ended_or r (sym b ∙ is)
  where
    ended_or : (r : Option Standing) → state.Ended ≡ state.Stopped r → ⊥
    ended_or r e = absurd (cc)
never_stops (halt.Paused turns) since old all new s p (x, b) (r, is) = paused_or x r (sym b ∙ is)
  where
    paused_or : (x r : Option Standing) → state.Paused x ≡ state.Stopped r → ⊥
    paused_or x r e = absurd (cc)

told_never : (turns : ℕ) (valued : Bool) (c : Course) (front text : List ℕ) (after : Option Course) (s : State) (told : IsTold [] walk.Cont turns valued c front text after) → IsBehind told.h s → IsAtStop s → ⊥
told_never turns valued c front text after s told b stop =
    never_stops told.h c.world.enters c.passed (events_upto (suc told.new.steps) told.new.start) told.new.passed s (told.passes.halts (suc told.new.steps) (omega arith)) b stop

-- so it is, whether or not it is an evaluation
lands : (t : Option Text) (past : List (List Present)) (come : ℕ) (modules : List Present) (ps : List StopAt) (how : Walk) (turns : ℕ) (c : Course) (front text : List ℕ) (after : Option Course) (s : State)
    → come ≡ length past → (is_some t ≡ true → how ≡ walk.Cont) → (told : IsTold (stops_by t ps) how turns (is_some t) c front text after) → FollowsOn (with_evaluation t (texts modules)) s after → IsBehind told.h s
    → FollowsIn t past come modules s after
lands None past come modules ps how turns c front text after s e conts told f b = follows_here past come modules s after e f
lands (Some t) past come modules ps how turns c front text after s e conts told f b =
    follows_valued t past come modules s after f (by_walk how (conts refl) told b)
  where
    by_walk : (how : Walk) → how ≡ walk.Cont → (told : IsTold [] how turns true c front text after) → IsBehind told.h s → IsAtStop s → ⊥
    by_walk walk.Cont is told b = told_never turns true c front text after s told b
    by_walk walk.Step is told b = absurd (cc)
    by_walk walk.Next is told b = absurd (cc)

-- ---- functions in which no step is made for nothing

or_later_lean : (u : Text) (o : Option Fun) (c d : Callee) → LeanCallee (or_later u o c) → (LeanCallee c → LeanCallee d) → LeanCallee (or_later u o d)
or_later_lean u None c d p on = on p
or_later_lean u (Some f) c d p on = p

one_lean : (t : Text) (o : Option Fun) (c : Callee) → ((f : Fun) → o ≡ Some f → LeanStmt f.body) → LeanCallee c → LeanCallee (or_later t o c)
one_lean t None c p q = q
one_lean t (Some f) c p q = p f refl

behind_lean : (t : Text) (key : Key) (ts : List Text) → LeanText (Some t) → LeanCallee (callee_of ts key) → LeanCallee (callee_of (ts ++ t ∷ []) key)
behind_lean t key [] lean p = one_lean t (fun_by key.«module» key.name t.core) (library_callee key key.«module») (lean key.«module» key.name) p
behind_lean t key (u ∷ us) lean p =
    or_later_lean u (fun_by key.«module» key.name u.core) (callee_of us key) (callee_of (us ++ t ∷ []) key) p (behind_lean t key us lean)

with_lean : (t : Option Text) (ts : List Text) → AreFormed ts → LeanText t → AreLean (alone (with_evaluation t ts))
with_lean None ts formed lean = formed_lean ts formed
with_lean (Some t) ts formed lean = λ n key.
    subst (λ us. LeanCallee (callee_of us key)) (sym (present (ts ++ t ∷ []) n))
    (behind_lean t key ts lean (subst (λ us. LeanCallee (callee_of us key)) (present ts n) (formed_lean ts formed n key)))

-- ---- the modules change where a run stands

module _ (modules new : List Text) where
  changed_follows : (r settled : Option Standing) (run : Option Course) → FollowsThere modules r settled run → FollowsThere new r (changed_run modules new settled) (changed_course new run)
  changed_follows r settled run f =
      let p = f.follows in
      let w : World = world_of p.behind.state in
      let n : Standing = changed_standing modules new p.behind in
      let s : IsStill p.behind n = still modules new p.behind in
      let at = still_at modules new p.behind p.old p.among f.seen in
      let count : (world_of p.place.state).count ≡ w.count = sym p.still.counts in
      record {
        follows = record {
          start = p.start;
          history = with_version p.history new w;
          place = p.place;
          behind = n;
          old = p.old;
          known = p.known;
          settles = ap (changed_run modules new) p.settles;
          same = ap (changed_course new) p.same ∙ ap (λ k. Some (course_of (with_history p.start (p.history ++ record { count = k; texts = new } ∷ [])) p.place p.old)) count;
          of = change_through p.start p.history modules new p.behind f.event;
          still = still_on p.place p.behind n p.still s;
          among = at.0;
          lean = still_lean modules new p.behind p.lean;
          earned = change_earned modules new p.behind p.earned;
        };
        event = change_behind p.start p.history modules new p.behind f.event;
        seen = at.1;
      }

one_longer : (n : ℕ) (past : List (List Present)) (modules : List Present) → n ≤ length past → n ≤ length (past ++ modules ∷ [])
one_longer n past modules le =
    let e : length (past ++ modules ∷ []) ≡ length past + 1 = length-append past (modules ∷ []) in
    omega (arith, e, le)

no_course : (b : Bool) (new : List Text) (run : Option Course) → run ≡ None → changed_by b new run ≡ None
no_course true new run e = ap (changed_course new) e
no_course false new run e = refl

-- by whether all modules are interpreted then
stopped_follows : (Is : Image → Type 0) (b : Bool) (t : Option Text) (past : List (List Present)) (come : ℕ) (modules new : List Present) (r : Option Standing) (s : State) (run : Option Course)
    → FollowsIn t past come modules (state.Stopped r) run → GoesOver Is b r s → FollowsIn t (past ++ modules ∷ []) come new s (changed_by b (texts new) run)
stopped_follows Is true t past come modules new r s run (none, le, f) e =
    subst (λ x. FollowsIn t (past ++ modules ∷ []) come new x (changed_course (texts new) run)) (sym e)
    (none, one_longer come past modules le, subst (λ x. FollowsThere (texts new) r x (changed_course (texts new) run)) (sym (waits_more come past modules new r le)) (changed_follows (texts modules) (texts new) r (behind_changes past come modules r) run f))
stopped_follows Is false t past come modules new r s run f (i, m, is, taken, e) = subst (λ x. FollowsIn t (past ++ modules ∷ []) come new x None) (sym e) refl

relinked_follows : (Is : Image → Type 0) (b : Bool) (t : Option Text) (past : List (List Present)) (come : ℕ) (modules new : List Present) (old s : State) (run : Option Course)
    → FollowsIn t past come modules old run → Relinks Is b (state_with (stays old) old) s
    → FollowsIn t (past_with (stays old) past modules) (come_with (stays old) come) new s (changed_by (stays old && b) (texts new) run)
relinked_follows Is b t past come modules new state.Idle s run f e = subst (λ x. FollowsIn t [] 0 new x None) (sym e) refl
relinked_follows Is b t past come modules new (state.Stopped r) s run f e = stopped_follows Is b t past come modules new r s run f e
relinked_follows Is b t past come modules new (state.Paused r) s run f e = subst (λ x. FollowsIn t [] 0 new x None) (sym e) refl
relinked_follows Is b t past come modules new (state.StoppedMixed w) s run f (i, is, e) = subst (λ x. FollowsIn t (past ++ modules ∷ []) come new x (changed_by b (texts new) run)) (sym e) (no_course b (texts new) run f)
relinked_follows Is b t past come modules new (state.PausedMixed w) s run f e = subst (λ x. FollowsIn t [] 0 new x None) (sym e) refl
relinked_follows Is b t past come modules new state.Ended s run f e = subst (λ x. FollowsIn t [] 0 new x None) (sym e) refl

-- a run that ended is forgotten, and the text of an evaluation
unended_follows : (t : Option Text) (past : List (List Present)) (come : ℕ) (modules : List Present) (s : State) (run : Option Course) → FollowsIn t past come modules s run
    → FollowsIn (evaluating_going (is_over s) t) (past_going (is_over s) past) (come_going (is_over s) come) modules (unended s) run
unended_follows t past come modules state.Idle run f = f
unended_follows t past come modules (state.Stopped r) run f = f
unended_follows t past come modules (state.Paused r) run f = f
unended_follows t past come modules (state.StoppedMixed w) run f = f
unended_follows t past come modules (state.PausedMixed w) run f = f
unended_follows t past come modules state.Ended run f = f

going_lean : (b : Bool) (t : Option Text) → LeanText t → LeanText (evaluating_going b t)
going_lean true t lean = tt
going_lean false t lean = lean

forgotten_keeps : (session : Plain) (run : Option Course) → Keeps session run → Keeps (forgotten session) run
forgotten_keeps session run k =
    (k.0, going_lean (is_over session.state) session.evaluating k.1, unended_follows session.evaluating session.past session.come session.modules session.state run k.2)

asked_keeps : (c : Command) (session : Plain) (run : Option Course) → Keeps session run → Keeps (asked c session) run
asked_keeps (command.Run file) session run k = forgotten_keeps session run k
asked_keeps _ session run k = k

-- another begins where no change is kept, and no evaluation
begins_alone : (s : State) (past : List (List Present)) (come : ℕ) → starting (unended s) ≡ None → (past_going (is_over s) past ≡ []) × (come_going (is_over s) come ≡ 0)
begins_alone state.Idle past come free = (refl, refl)
begins_alone (state.Stopped r) past come free = absurd (cc)
begins_alone (state.Paused r) past come free = absurd (cc)
begins_alone (state.StoppedMixed w) past come free = absurd (cc)
begins_alone (state.PausedMixed w) past come free = absurd (cc)
begins_alone state.Ended past come free = (refl, refl)

begins_plain : (s : State) (t : Option Text) → starting (unended s) ≡ None → evaluating_going (is_over s) t ≡ None
begins_plain state.Idle t free = refl
begins_plain (state.Stopped r) t free = absurd (cc)
begins_plain (state.Paused r) t free = absurd (cc)
begins_plain (state.StoppedMixed w) t free = absurd (cc)
begins_plain (state.PausedMixed w) t free = absurd (cc)
begins_plain state.Ended t free = refl

all_come : (s : State) (past : List (List Present)) (come : ℕ) → starting (unended s) ≡ None → come_going (is_over s) come ≡ length (past_going (is_over s) past)
all_come s past come free =
    let p = begins_alone s past come free in
    p.1 ∙ sym (ap length p.0)

-- where another may begin, it may once the ended one is forgotten
unended_free : (s : State) → starting s ≡ None → starting (unended s) ≡ None
unended_free state.Idle free = free
unended_free (state.Stopped r) free = free
unended_free (state.Paused r) free = free
unended_free (state.StoppedMixed w) free = free
unended_free (state.PausedMixed w) free = free
unended_free state.Ended free = refl

-- ---- a go

-- where no memory was left, before it or in it
cut_keeps : (First : List ℕ → Type 0) (session new : Plain) (front : List ℕ) (run : Option Course) → Keeps session run → IsCutOff First session front new → (after : Option Course) × Stays run after × Keeps new after
cut_keeps First session new front run k (inl (none, e)) = (run, same_run run, moved session new run e k)
cut_keeps First session new front run k (inr (first, e)) = (None, no_run run, moved (cut_off front session) new None e (k.0, k.1, refl))

-- the run that goes on in a state, behind the changes that wait for it
none_elsewhere : (come : ℕ) (r : Option Standing) → gone_through (drop come []) r ≡ r
none_elsewhere zero r = refl
none_elsewhere (suc come) r = refl

going_run : (t : Option Text) (past : List (List Present)) (come : ℕ) (modules : List Present) (s : State) (r : Option Standing) (run : Option Course) → RunsIn s r → FollowsIn t past come modules s run
    → Follows (with_evaluation t (texts modules)) r (gone_through (drop come (versions_by (stays s) past modules)) r) run
going_run t past come modules state.Idle r run p f = absurd p
going_run t past come modules (state.Stopped q) r run p (none, le, f) =
    subst (λ u. Follows (with_evaluation u (texts modules)) r (behind_changes past come modules r) run) (sym none)
    (subst (λ x. Follows (texts modules) x (behind_changes past come modules x) run) (sym p) f.follows)
going_run t past come modules (state.Paused q) r run p f =
    subst (λ x. Follows (with_evaluation t (texts modules)) r x run) (sym (none_elsewhere come r)) (subst (λ x. Follows (with_evaluation t (texts modules)) x x run) (sym p) f)
going_run t past come modules (state.StoppedMixed w) r run p f = absurd p
going_run t past come modules (state.PausedMixed w) r run p f = absurd p
going_run t past come modules state.Ended r run p f = absurd p

-- one go of a run that follows
abbrev pub Onward : List Text → List StopAt → Walk → ℕ → Bool → Option Course → List ℕ → List ℕ → State → Type 0
Onward modules stops how turns valued run front text s =
    (c : Course) × (run ≡ Some c) × ((after : Option Course) × (told : IsTold stops how turns valued c front text after) × FollowsOn modules s after × IsBehind told.h s)

goes_on : (modules : List Text) (stops : List StopAt) (how : Walk) (turns : ℕ) (valued : Bool) (r settled : Option Standing) (run : Option Course) (front text : List ℕ) (s : State) → AreLean (alone modules) → Follows modules r settled run
    → Went modules stops how turns valued settled front text s → Onward modules stops how turns valued run front text s
goes_on modules stops how turns valued r settled run front text s leans f w =
    let here = subst (λ x. Went modules stops how turns valued x front text s) f.settles w in (
      course_of (with_history f.start f.history) f.place f.old,
      f.same,
      went f.start f.history modules stops how turns valued leans f.place f.behind f.old f.of f.still f.among f.lean f.earned front text s here,
    )

-- ---- a go of a run of both forms

mixed_follows : (past : List (List Present)) (come : ℕ) (modules : List Present) (h : Halt) (w : Mixed) → (t : Option Text) → FollowsIn t past come modules (mixed_state h w) None
mixed_follows past come modules halt.Entered w t = refl
mixed_follows past come modules halt.AtLine w t = refl
mixed_follows past come modules halt.Ended w t = refl
mixed_follows past come modules (halt.Paused turns) w t = refl

-- none of the meaning's goes on behind it
mixed_keeps : (session new : Plain) (how : Walk) (m : Mixed) (text : List ℕ) → AreFormed (texts session.modules) → LeanText session.evaluating → MixedWent session how m text new → Keeps new None
mixed_keeps session new how m text formed lean went =
    moved (in_state (mixed_state went.halts went.stands) (caught_up session)) new None went.follows
    (formed, lean, mixed_follows session.past (length session.past) session.modules went.halts went.stands session.evaluating)

single_follows : (past : List (List Present)) (come : ℕ) (modules : List Present) (h : Option Halt) (w : Mixed) → (t : Option Text) → FollowsIn t past come modules (single_state h w) None
single_follows past come modules None w t = refl
single_follows past come modules (Some h) w t = mixed_follows past come modules h w t

single_keeps : (session new : Plain) (m : Mixed) (text : List ℕ) → AreFormed (texts session.modules) → LeanText session.evaluating → SingleWent session m text new → Keeps new None
single_keeps session new m text formed lean went =
    moved (in_state (single_state went.halts went.stands) (caught_up session)) new None went.follows
    (formed, lean, single_follows session.past (length session.past) session.modules went.halts went.stands session.evaluating)

given_up_keeps : (session new : Plain) (run : Option Course) → Keeps session run → IsGivenUp session new → (after : Option Course) × Stays run after × Keeps new after
given_up_keeps session new run k (inl e) = (run, same_run run, moved session new run e k)
given_up_keeps session new run k (inr e) = (None, no_run run, moved (in_state state.Ended session) new None e (k.0, k.1, refl))

module _ (old : Moment) (run : Option Course) (k : Keeps old.session run) where
  -- what an answer to a go tells, by whether the run is one of both forms
  abbrev pub WalkTellsBy : Bool → Walk → List ℕ → Answer → Option Course → Type 0
  WalkTellsBy b how front (answer.Ran text) after = WalksSoBy b old run how front text after
  WalkTellsBy b how front _ after = Stays run after

  walk_tells : (how : Walk) (front : List ℕ) (said : Answer) (new : Plain) → (is_some old.session.evaluating ≡ true → how ≡ walk.Cont) → going.Walks old.session how front said new
      → (after : Option Course) × WalkTellsBy false how front said after × Keeps new after
  walk_tells how front (answer.Ran text) new conts (r, runs, (s, w, e)) =
      let t : Option Text = old.session.evaluating in
      let modules : List Text = with_evaluation t (texts old.session.modules) in
      let stops : List StopAt = stops_by t (places old.session.stops) in
      let f = going_run t old.session.past old.session.come old.session.modules old.session.state r run runs k.2 in
      let o = goes_on modules stops how old.session.limits.turns (is_some t) r (settled old.session r) run front text s (with_lean t (texts old.session.modules) k.0 k.1) f w in
      let there = lands t old.session.past (length old.session.past) old.session.modules (places old.session.stops) how old.session.limits.turns o.0 front text o.2.0 s refl conts o.2.1 o.2.2 o.2.3 in (
        o.2.0,
        (o.0, o.1, o.2.1),
        moved (in_state s (caught_up old.session)) new o.2.0 e (k.0, k.1, there),
      )
  walk_tells how front answer.NoMemory new conts p = cut_keeps (going.WalkFirst old.session how) old.session new front run k p
  walk_tells how front _ new conts p = absurd p

  mixed_walk_tells : (how : Walk) (front : List ℕ) (said : Answer) (new : Plain) → MixedWalks old.session how said new → (after : Option Course) × WalkTellsBy true how front said after × Keeps new after
  mixed_walk_tells how front (answer.Ran text) new (m, stood, (n, through, went)) = (None, refl, mixed_keeps old.session new how n text k.0 k.1 went)
  mixed_walk_tells how front answer.NoMemory new p = given_up_keeps old.session new run k p
  mixed_walk_tells how front _ new p = absurd p

  walk_tells_by : (b : Bool) (how : Walk) (front : List ℕ) (said : Answer) (new : Plain) → (b ≡ false → is_some old.session.evaluating ≡ true → how ≡ walk.Cont) → WalksBy b old.session how front said new → (after : Option Course) × WalkTellsBy b how front said after × Keeps new after
  walk_tells_by false how front said new conts p = walk_tells how front said new (conts refl) p
  walk_tells_by true how front said new conts p = mixed_walk_tells how front said new p.1

  -- a step of one instruction is one of a run of both forms
  single_tells : (said : Answer) (new : Plain) → CarriesOne old.session said new → (after : Option Course) × Stays run after × Keeps new after
  single_tells (answer.Ran text) new (m, stood, (n, through, went)) = (None, no_run run, single_keeps old.session new n text k.0 k.1 went)
  single_tells answer.NoMemory new p = given_up_keeps old.session new run k p
  single_tells _ new p = absurd p

  -- the same as the law has it
  walk_told : (how : Walk) (front : List ℕ) (said : Answer) (after : Option Course) → WalkTellsBy (is_mixed old.session.state) how front said after → WalkTells old run how front said after
  walk_told how front (answer.Ran text) after p = p
  walk_told how front _ after p = p

  walks : (how : Walk) (front : List ℕ) (said : Answer) (new : Plain) → (is_mixed old.session.state ≡ false → is_some old.session.evaluating ≡ true → how ≡ walk.Cont) → WalksBy (is_mixed old.session.state) old.session how front said new
      → (after : Option Course) × WalkTells old run how front said after × Keeps new after
  walks how front said new conts p =
      let t = walk_tells_by (is_mixed old.session.state) how front said new conts p in
      (t.0, walk_told how front said t.0 t.1, t.2)

  -- the modules changed, and the run stays or not
  changes : (session new : Plain) → Becomes session new → session.past ≡ past_with (stays old.session.state) old.session.past old.session.modules → session.come ≡ come_with (stays old.session.state) old.session.come
      → session.state ≡ state_with (stays old.session.state) old.session.state → session.evaluating ≡ old.session.evaluating → AreFormed (texts session.modules) → (after : Option Course) × ChangesSo old run (texts new.modules) after × Keeps new after
  changes session new (s, relinks, e) past come is same formed =
      let b : Bool = are_sources (texts session.modules) in
      let after : Option Course = changed_by (stays old.session.state && b) (texts session.modules) run in
      let there : FollowsIn old.session.evaluating (past_with (stays old.session.state) old.session.past old.session.modules) (come_with (stays old.session.state) old.session.come) session.modules s after =
      relinked_follows (IsImageOver session.past session.modules session.numbers) b old.session.evaluating old.session.past old.session.come old.session.modules session.modules old.session.state s run k.2
      (subst (λ x. Relinks (IsImageOver session.past session.modules session.numbers) b x s) is relinks) in (
        after,
        ap (λ x. changed_by (stays old.session.state && are_sources (texts x.modules)) (texts x.modules) run) (sym e),
        moved (in_state s session) new after e (
          formed,
          subst LeanText (sym same) k.1,
          subst (λ x. FollowsIn session.evaluating x session.come session.modules s after) (sym past)
              (subst (λ x. FollowsIn session.evaluating (past_with (stays old.session.state) old.session.past old.session.modules) x session.modules s after) (sym come)
              (subst (λ x. FollowsIn x (past_with (stays old.session.state) old.session.past old.session.modules) (come_with (stays old.session.state) old.session.come) session.modules s after) (sym same) there)),
        ),
      )

  -- the commands that let no program go on
  loads : (name file : List ℕ) (said : Answer) (new : Moment) → Loads old name file said new → (after : Option Course) × ChangeTells old run said (texts new.session.modules) after × Keeps new.session after
  loads name file (answer.Loaded m) new (is, (built, fits, becomes, held)) =
      changes (joined old.session built) new.session becomes refl refl refl refl (with_formed old.session.modules (present_of old.session.loaded built) k.0 fits.builds.formed)
  loads name file (answer.Refused d) new (leaves, why) = (run, same_run run, moved old.session new.session run leaves.0 k)
  loads name file answer.NoMemory new leaves = (run, same_run run, moved old.session new.session run leaves.0 k)
  loads name file _ new p = absurd p

  edits : (name file : List ℕ) (said : Answer) (new : Moment) → Edits old name file said new → (after : Option Course) × ChangeTells old run said (texts new.session.modules) after × Keeps new.session after
  edits name file (answer.Edited m) new (is, (built, fits, becomes, held)) =
      changes (replaced old.session built) new.session becomes refl refl refl refl (in_formed old.session.modules (present_of old.session.loaded built) k.0 fits.builds.formed)
  edits name file (answer.Refused d) new (leaves, why) = (run, same_run run, moved old.session new.session run leaves.0 k)
  edits name file answer.NoMemory new leaves = (run, same_run run, moved old.session new.session run leaves.0 k)
  edits name file _ new p = absurd p

  swaps : (name : List ℕ) (f : Form) (c : Choice) (said : Answer) (new : Moment) → Swaps old name f c said new → (after : Option Course) × ChangeTells old run said (texts new.session.modules) after × Keeps new.session after
  swaps name f c (answer.Swapped m g) new (plain, is, same, may, becomes, held) =
      changes (swapped old.session name f c) new.session becomes refl refl refl refl (swapped_formed name f c old.session.modules k.0)
  swaps name f c (answer.SwappedFast m) new (fast, is, may, becomes, held) =
      changes (swapped old.session name f c) new.session becomes refl refl refl refl (swapped_formed name f c old.session.modules k.0)
  swaps name f c (answer.Refused d) new (is, leaves, why) = (run, same_run run, moved old.session new.session run leaves.0 k)
  swaps name f c answer.NoMemory new leaves = (run, same_run run, moved old.session new.session run leaves.0 k)
  swaps name f c _ new p = absurd p

  unloads : (name : List ℕ) (said : Answer) (new : Plain) → Unloads old.session name said new → (after : Option Course) × ChangeTells old run said (texts new.modules) after × Keeps new after
  unloads name (answer.Unloaded m) new (is, becomes) = changes (unloaded old.session name) new becomes refl refl refl refl (kept_formed _ old.session.modules k.0)
  unloads name answer.NoMemory new e = (run, same_run run, moved old.session new run e k)
  unloads name _ new p = absurd p

  sets : (place : StopAt) (said : Answer) (new : Plain) → Sets old.session place said new → Keeps new run
  sets place (answer.StopSet n q) new (number, same, e) = moved (with_stop old.session place) new run e k
  sets place answer.NoMemory new e = moved old.session new run e k
  sets place _ new p = absurd p

  drops : (n : ℕ) (said : Answer) (new : Plain) → Drops n old.session said new → Keeps new run
  drops n (answer.Dropped m) new (is, e) = moved (without_probe old.session) new run e k
  drops n answer.NoMemory new e = moved old.session new run e k
  drops n _ new p = absurd p

  same_session : (new : Moment) → new ≡ old → (after : Option Course) × Stays run after × Keeps new.session after
  same_session new e = (run, same_run run, moved old.session new.session run (ap (λ m. m.session) e) k)

-- ---- the start of a run

starts : (session : Plain) (key : Key) (bytes front text : List ℕ) (new : Plain) → session.come ≡ length session.past → AreFormed (texts session.modules) → LeanText session.evaluating
    → ((f : LibFun) → callee_of (going_texts session) key ≡ InLibrary f → ⊥) → going.Begins session key bytes front text new
    → (c : Course) × Begins (start_of (going_texts session) key session.limits.stack session.limits.heap bytes) c
    × ((after : Option Course) × IsTold (going_stops session) walk.Cont session.limits.turns (is_valued session) c front text after × Keeps new after)
starts session key bytes front text new none formed lean other (of, (s, w, e)) =
    let t : Option Text = session.evaluating in
    let modules : List Text = with_evaluation t (texts session.modules) in
    let stops : List StopAt = stops_by t (places session.stops) in
    let stack : ℕ = session.limits.stack in
    let heap : ℕ = session.limits.heap in
    let start : Start = start_of modules key stack heap bytes in
    let first : Standing = started modules key stack heap bytes in
    let leans = with_lean t (texts session.modules) formed lean in
    let course : Course = course_of (with_history start (alone modules)) first [] in
    let went_on = went start (alone modules) modules stops walk.Cont session.limits.turns (is_some t) leans first first [] (begins_through modules key stack heap bytes) (still_here first) (starts_fresh modules key stack heap bytes other).0
    (starts_lean modules key stack heap bytes leans) (starts_earned modules key stack heap bytes leans) front text s w in
    let there = lands t session.past session.come session.modules (places session.stops) walk.Cont session.limits.turns course front text went_on.0 s none (λ valued. refl) went_on.1 went_on.2 went_on.3 in (
      course,
      begins modules key stack heap bytes other,
      (went_on.0, went_on.1, moved (in_state s session) new went_on.0 e (formed, lean, there)),
    )

-- the session in which a run that ended is forgotten, as another is asked for
abbrev pub anew : Moment → Moment
anew old = moment (forgotten old.session) old.held old.faults

module _ (old : Moment) (run : Option Course) (k : Keeps (forgotten old.session) run) (none : (forgotten old.session).come ≡ length (forgotten old.session).past) (plain : (forgotten old.session).evaluating ≡ None) where
  -- what an answer to `run` tells, by whether all modules are interpreted
  abbrev pub RunTellsBy : Bool → Option (List ℕ) → List ℕ → Answer → Option Course → Type 0
  RunTellsBy b file front (answer.Ran text) after = RunsSoBy b old file front text after
  RunTellsBy b file front _ after = Stays run after

  run_tells : (file : Option (List ℕ)) (front : List ℕ) (said : Answer) (new : Moment) → Runs (anew old) file front said new → (after : Option Course) × RunTellsBy true file front said after × Keeps new.session after
  run_tells file front (answer.Ran text) new (held, main, (bytes, input, b)) =
      let modules : List Text = texts old.session.modules in
      let p = starts (anew old).session main_key bytes front text new.session none k.0 k.1
      (λ f. subst (λ u. callee_of (with_evaluation u modules) main_key ≡ InLibrary f → ⊥) (sym plain) (no_library modules f)) b in
      let c : Course = p.0 in
      let began : Begins (start_of modules main_key old.session.limits.stack old.session.limits.heap bytes) c =
      subst (λ u. Begins (start_of (with_evaluation u modules) main_key old.session.limits.stack old.session.limits.heap bytes) c) plain p.1 in
      let told : IsTold (places old.session.stops) walk.Cont old.session.limits.turns false c front text p.2.0 =
      subst (λ u. IsTold (stops_by u (places old.session.stops)) walk.Cont old.session.limits.turns (is_some u) c front text p.2.0) plain p.2.1 in
      (p.2.0, (bytes, input, (c, began, told)), p.2.2)
  run_tells file front (answer.Refused d) new (none, leaves, why) = (run, same_run run, moved (anew old).session new.session run leaves.0 k)
  run_tells file front answer.NoMemory new (held, cut) = cut_keeps (RunFirst (anew old) file) (anew old).session new.session front run k cut
  run_tells file front _ new p = absurd p

  mixed_run_tells : (file : Option (List ℕ)) (front : List ℕ) (said : Answer) (new : Moment) → MixedRuns (anew old) file said new → (after : Option Course) × RunTellsBy false file front said after × Keeps new.session after
  mixed_run_tells file front (answer.Ran text) new (held, main, (bytes, input, (w, empty, went))) = (None, refl, mixed_keeps (anew old).session new.session walk.Cont w text k.0 k.1 went)
  mixed_run_tells file front (answer.Refused d) new p = (run, same_run run, moved (anew old).session new.session run p.0.0 k)
  mixed_run_tells file front answer.NoMemory new (held, up) = given_up_keeps (anew old).session new.session run k up
  mixed_run_tells file front _ new p = absurd p

  run_tells_by : (b : Bool) (file : Option (List ℕ)) (front : List ℕ) (said : Answer) (new : Moment) → RunsBy b (anew old) file front said new → (after : Option Course) × RunTellsBy b file front said after × Keeps new.session after
  run_tells_by true file front said new p = run_tells file front said new p
  run_tells_by false file front said new p = mixed_run_tells file front said new p.1

  -- the same as the law has it
  run_told : (file : Option (List ℕ)) (front : List ℕ) (said : Answer) (after : Option Course) → RunTellsBy (are_sources (texts old.session.modules)) file front said after → RunTells old run file front said after
  run_told file front (answer.Ran text) after p = p
  run_told file front _ after p = p

  runs : (file : Option (List ℕ)) (front : List ℕ) (said : Answer) (new : Moment) → RunsBy (are_sources (texts old.session.modules)) (anew old) file front said new → (after : Option Course) × RunTells old run file front said after × Keeps new.session after
  runs file front said new p =
      let t = run_tells_by (are_sources (texts old.session.modules)) file front said new p in
      (t.0, run_told file front said t.0 t.1, t.2)

-- ---- an evaluation

abbrev text_with : ℕ → Core → Text
text_with number core = record { number = number; core = core; form = Source }

external_lean : (b : Bool) (number : ℕ) (core : Core) (f : Fun) → f.external ≡ b → function_of eval_name core.funs ≡ Some f → ((key : Key) → LeanCallee (callee_of (text_with number core ∷ []) key)) → LeanStmt f.body
external_lean true number core f is found leans =
    let key : Key = record { «module» = None; name = eval_name } in
    let there : fun_by None eval_name core ≡ Some f = ap (if_external true) found ∙ ap (λ b. if b then Some f else None) is in
    subst (λ o. LeanCallee (or_later (text_with number core) o (library_callee key None))) there (leans key)
external_lean false number core f is found leans =
    let key : Key = record { «module» = Some core.name; name = eval_name } in
    let same : bytes_eq core.name core.name ≡ true = (bytes_eq-Decides core.name core.name).1 refl in
    let there : fun_by (Some core.name) eval_name core ≡ Some f =
    ap (λ b. if b then if_external false (function_of eval_name core.funs) else None) same ∙ ap (if_external false) found ∙ ap (λ b. if b then None else Some f) is in
    subst (λ o. LeanCallee (or_later (text_with number core) o Missing)) there (leans key)

one_of : (wanted b : Bool) (g f : Fun) → (if wanted then (if b then Some g else None) else (if b then None else Some g)) ≡ Some f → g ≡ f
one_of true true g f e = cc
one_of true false g f e = absurd (cc)
one_of false true g f e = absurd (cc)
one_of false false g f e = cc

found_one : (wanted b : Bool) (g f : Fun) → if_external wanted (if b then Some g else None) ≡ Some f → g ≡ f
found_one true true g f e = one_of true g.external g f e
found_one false true g f e = one_of false g.external g f e
found_one true false g f e = absurd (cc)
found_one false false g f e = absurd (cc)

found_home : (b : Bool) (o : Option Fun) (f : Fun) → (if b then o else None) ≡ Some f → o ≡ Some f
found_home true o f e = e
found_home false o f e = absurd (cc)

alone_lean : (number : ℕ) (name : List ℕ) (e : Evaluation) (home : Option (List ℕ)) (fun : List ℕ) (f : Fun) → LeanStmt e.function.body → fun_by home fun (text_of number name e).core ≡ Some f → LeanStmt f.body
alone_lean number name e None fun f body found = subst (λ (x : Fun). LeanStmt x.body) (found_one true (bytes_eq e.function.name fun) e.function f found) body
alone_lean number name e (Some home) fun f body found =
    subst (λ (x : Fun). LeanStmt x.body)
    (found_one false (bytes_eq e.function.name fun) e.function f (found_home (bytes_eq name home) (if_external false (function_of fun (e.function ∷ []))) f found)) body

-- its function is one of those that were checked
eval_lean : (tokens : List Token) (name line : List ℕ) (number : ℕ) (e : Evaluation) → Starts tokens name line e → LeanText (Some (text_of number name e))
eval_lean tokens name line number e s =
    let made = s.starts.makes in
    let body : LeanStmt e.function.body =
    external_lean e.function.external number made.core e.function refl made.function (λ key. formed_lean (text_with number made.core ∷ []) (made.formed, tt) 0 key) in
    λ home fun f found. alone_lean number name e home fun f body found

-- where no run goes on, a text of an evaluation is none of it
text_follows : (s : State) (u v : Option Text) (past : List (List Present)) (come : ℕ) (modules : List Present) (run : Option Course) → starting (unended s) ≡ None → FollowsIn u past come modules (unended s) run → FollowsIn v past come modules (unended s) run
text_follows state.Idle u v past come modules run free f = f
text_follows (state.Stopped r) u v past come modules run free f = absurd (cc)
text_follows (state.Paused r) u v past come modules run free f = absurd (cc)
text_follows (state.StoppedMixed w) u v past come modules run free f = absurd (cc)
text_follows (state.PausedMixed w) u v past come modules run free f = absurd (cc)
text_follows state.Ended u v past come modules run free f = f

module _ (old : Moment) (run : Option Course) (k : Keeps (forgotten old.session) run) (free : starting (unended old.session.state) ≡ None) (name line : List ℕ) where
  -- what an answer to `eval` tells, by whether all modules are interpreted
  abbrev pub EvalTellsBy : Bool → List ℕ → Answer → Option Course → Type 0
  EvalTellsBy b front (answer.Ran text) after = EvaluatesSoBy b old name line front text after
  EvalTellsBy b front _ after = Stays run after

  module _ (t : Text) (asks : Asks old.session name line t) where
    abbrev inside : Plain
    inside = with_text t old.session

    text_lean : LeanText (Some t)
    text_lean = subst (λ u. LeanText (Some u)) (sym asks.same) (eval_lean asks.kept.tokens name line old.session.loaded asks.evaluation asks.starts)

    kept_there : Keeps inside run
    kept_there =
        (k.0, text_lean, text_follows old.session.state (evaluating_going (is_over old.session.state) old.session.evaluating) (Some t) inside.past inside.come inside.modules run free k.2)

    source_tells : (front : List ℕ) (said : Answer) (new : Plain) → going.BeginsSo inside (eval_key name) [] front said new → (after : Option Course) × EvalTellsBy true front said after × Keeps new after
    source_tells front (answer.Ran text) new b =
        let p = starts inside (eval_key name) [] front text new (all_come old.session.state old.session.past old.session.come free) k.0 text_lean
        (no_internal (texts old.session.modules ++ t ∷ []) name eval_name) b in
        (p.2.0, (t, asks, (p.0, p.1, p.2.1)), p.2.2)
    source_tells front answer.NoMemory new cut = cut_keeps (going.BeginFirst inside (eval_key name) []) inside new front run kept_there cut
    source_tells front _ new p = absurd p

    both_tells : (front : List ℕ) (said : Answer) (new : Plain) → MixedBegins inside (eval_key name) [] said new → (after : Option Course) × EvalTellsBy false front said after × Keeps new after
    both_tells front (answer.Ran text) new (w, empty, went) = (None, refl, mixed_keeps inside new walk.Cont w text k.0 text_lean went)
    both_tells front answer.NoMemory new up = given_up_keeps inside new run kept_there up
    both_tells front _ new p = absurd p

    evals_by : (b : Bool) (front : List ℕ) (said : Answer) (new : Plain) → evaluation.RunsBy b inside name front said new → (after : Option Course) × EvalTellsBy b front said after × Keeps new after
    evals_by true front said new p = source_tells front said new p
    evals_by false front said new p = both_tells front said new p.1

  -- the same as the law has it
  eval_told : (front : List ℕ) (said : Answer) (after : Option Course) → EvalTellsBy (are_sources (texts old.session.modules)) front said after → EvalTells old run name line front said after
  eval_told front (answer.Ran text) after p = p
  eval_told front _ after p = p

  eval_still : (front : List ℕ) (said : Answer) → Unevaluated old.session name line said → EvalTells old run name line front said run
  eval_still front (answer.Ran text) p = absurd p
  eval_still front _ p = same_run run

  evals : Keeps old.session run → (front : List ℕ) (said : Answer) (new : Plain) → Evaluates old.session name line front said new → (after : Option Course) × EvalTells old run name line front said after × Keeps new after
  evals here front said new (inl (none, is, p)) = (run, eval_still front said p, moved old.session new run is here)
  evals here front said new (inr (t, asks, p)) =
      let e = evals_by t asks (are_sources (texts old.session.modules)) front said new p in
      (e.0, eval_told front said e.0 e.1, e.2)

no_first_reason : (a b : Option Denied) → or_else a b ≡ None → a ≡ None
no_first_reason None b free = refl
no_first_reason (Some d) b free = absurd (cc)

-- a run at which no line can be stepped to is an evaluation at most
step_by : (t : Option Text) (past : List (List Present)) (come : ℕ) (modules : List Present) (s : State) (run : Option Course) (how : Walk) → stepping s ≡ None → FollowsIn t past come modules s run
    → is_mixed s ≡ false → is_some t ≡ true → how ≡ walk.Cont
step_by t past come modules state.Idle run how free f source some = absurd (cc)
step_by None past come modules (state.Stopped r) run how free f source some = absurd (cc)
step_by (Some u) past come modules (state.Stopped r) run how free (none, le, f) source some = absurd (cc)
step_by t past come modules (state.Paused r) run how free f source some = absurd (cc)
step_by t past come modules (state.StoppedMixed w) run how free f source some = absurd (cc)
step_by t past come modules (state.PausedMixed w) run how free f source some = absurd (cc)
step_by t past come modules state.Ended run how free f source some = absurd (cc)

-- ---- each command

carried : (old : Moment) (run : Option Course) → Keeps old.session run → (c : Command) (front : List ℕ) (said : Answer) (new : Moment) → refusal_of (asked c old.session) c ≡ None → Keeps (asked c old.session) run
    → Carried (moment (asked c old.session) old.held old.faults) c front said new → Tells_on old run c front said new.session
carried old run k command.Nothing front said new free a (none, p) = same_session old run k new p.1
carried old run k (command.Load name) front said new free a (none, p) = loads old run k name (file_of name) said new p
carried old run k (command.Unload name) front said new free a (none, p) = unloads old run k name said new.session p.0
carried old run k (command.Swap name f) front said new free a (none, p) = swaps old run k name f choice.Plain said new p
carried old run k (command.SwapFast name) front said new free a (none, p) = swaps old run k name form.Object choice.Fast said new p
carried old run k (command.Edit name file) front said new free a (none, p) = edits old run k name (file_or name file) said new p
carried old run k (command.Run file) front said new free a p = runs old run a (all_come old.session.state old.session.past old.session.come free) (begins_plain old.session.state old.session.evaluating free) file front said new p
carried old run k (command.Eval name line) front said new free a p =
    evals old run (forgotten_keeps old.session run k) (unended_free old.session.state (no_first_reason (starting old.session.state) (if_absent name (texts old.session.modules)) free)) name line k front said new.session p.0
carried old run k (command.Stop place) front said new free a (none, p) = (run, same_run run, sets old run k place said new.session p.0)
carried old run k (command.Delete n) front said new free a (none, p) = (run, same_run run, moved (without_stop n old.session) new.session run p.1 k)
carried old run k (command.Compile name) front said new free a (none, p) = (run, same_run run, moved old.session new.session run p.0 k)
carried old run k (command.CompileFast name) front said new free a (none, p) = (run, same_run run, moved old.session new.session run p.0 k)
carried old run k command.Step front said new free a p =
    walks old run k walk.Step front said new.session (step_by old.session.evaluating old.session.past old.session.come old.session.modules old.session.state run walk.Step free k.2) p.0
carried old run k command.Next front said new free a p =
    walks old run k walk.Next front said new.session (step_by old.session.evaluating old.session.past old.session.come old.session.modules old.session.state run walk.Next free k.2) p.0
carried old run k command.Cont front said new free a p = walks old run k walk.Cont front said new.session (λ source valued. refl) p.0
carried old run k command.StepOne front said new free a (none, p, files) = single_tells old run k said new.session p
carried old run k command.Frames front said new free a (none, p) = same_session old run k new p.1
carried old run k (command.Print name) front said new free a (none, p) = same_session old run k new p.1
carried old run k command.Machine front said new free a (none, p) = same_session old run k new p.1
carried old run k (command.Disas home fun) front said new free a (none, p) = same_session old run k new p.1
carried old run k (command.Xref name) front said new free a (none, p) = same_session old run k new p.1
carried old run k (command.Whatis name) front said new free a (none, p) = same_session old run k new p.1
carried old run k command.List front said new free a (none, p) = same_session old run k new p.1
carried old run k (command.Report n) front said new free a (none, p) = same_session old run k new p.1
carried old run k (command.Drop n) front said new free a (none, p) = (run, same_run run, drops old run k n said new.session p.0)
carried old run k command.Reset front said new free a (none, p) = (None, no_run run, moved (at_rest old.session) new.session None p.1 (k.0, k.1, refl))
carried old run k command.Quit front said new free a (none, p) = (run, same_run run, moved (record old.session { over = true }) new.session run p.1 k)
carried old run k command.Unknown front said new free a (none, p) = absurd p
carried old run k command.BadArguments front said new free a (none, p) = absurd p

decided : (o : Option Denied) (old : Moment) (run : Option Course) → Keeps old.session run → (c : Command) (front : List ℕ) (said : Answer) (new : Moment) → refusal_of (asked c old.session) c ≡ o
    → Decides o (moment (asked c old.session) old.held old.faults) c front said new → Tells_on old run c front said new.session
decided (Some d) old run k c front said new told (none, is, same) = (
  run,
  subst (λ a. Tells old run c front a (texts new.session.modules) run) (sym is) (refused old run c front d (texts new.session.modules)),
  moved (asked c old.session) new.session run (ap (λ m. m.session) same) (asked_keeps c old.session run k),
)
decided None old run k c front said new told p = carried old run k c front said new told (asked_keeps c old.session run k) p

pub answers_tell : (old : Moment) (run : Option Course) (c : Command) (front : List ℕ) (said : Answer) (new : Moment) → Keeps old.session run → AnswersTo old c front said new → (after : Option Course) × Tells old run c front said (texts new.session.modules) after × Keeps new.session after
answers_tell old run c front said new k p = decided (refusal_of (asked c old.session) c) old run k c front said new refl p

-- ---- the start of a session, and where it stands

pub nothing_yet : (limits : Limits) (probes : ℕ) → Keeps (empty limits probes) None
nothing_yet limits probes = (tt, tt, refl)

follows_stands : (modules : List Text) (r settled : Option Standing) (run : Option Course) → Follows modules r settled run → StandsIn r run
follows_stands modules r settled run f =
    subst (StandsIn r) (sym f.same) (subst (λ x. StandsIn x (Some (course_of (with_history f.start f.history) f.place f.old))) (sym f.known) refl)

state_stands : (t : Option Text) (past : List (List Present)) (come : ℕ) (modules : List Present) (s : State) (run : Option Course) → FollowsIn t past come modules s run → Stands s run
state_stands t past come modules state.Idle run f = f
state_stands t past come modules (state.Stopped r) run (none, le, f) = follows_stands (texts modules) r (behind_changes past come modules r) run f.follows
state_stands t past come modules (state.Paused r) run f = follows_stands (with_evaluation t (texts modules)) r r run f
state_stands t past come modules (state.StoppedMixed w) run f = f
state_stands t past come modules (state.PausedMixed w) run f = f
state_stands t past come modules state.Ended run f = f

pub session_stands : (session : Plain) (run : Option Course) → Keeps session run → StandsSo session run
session_stands session run k = state_stands session.evaluating session.past session.come session.modules session.state run k.2
