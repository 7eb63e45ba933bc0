-- From a run's steps to what the whole program does.
use Rattle.std.proofs.Common.{◌≡◌, ℕ, zero, suc, ◌+◌, ◌<◌, Bool, true, false, List, [], ◌∷◌, refl, ap, sym, subst, ◌∙◌, arith, add-one, Option, Some, None, Result, Ok, Err}
use Rattle.std.specs.Prelude.{◌↔◌, IsTrue}
use Rattle.std.specs.Result.{IsErrAnd}
use Rattle.std.proofs.lemmas.Result.{err_from_is_err_and}
use Rattle.sc_base.specs.declared.key.Key.{Key}
use Rattle.sc_meaning.specs.World.{World, GoesOut, ComesBack, pass}
use Rattle.sc_meaning.specs.Outcomes.{Outcome, Done, Over, Ending, Exit, and_then, went}
use Rattle.sc_meaning.specs.Versions.{Text, History, callee_of, version_at}
use Rattle.sc_meaning.specs.Changes.{settled, statics_born}
use Rattle.sc_meaning.specs.Expressions.{Answer, value_rule}
use Rattle.sc_meaning.specs.Values.{Value}
use Rattle.sc_types.specs.declared.ctype.CType.{CType}
use Rattle.sc_meaning.specs.Calls.{call}
use Rattle.sc_meaning.specs.Behaviour.{Start, first_world, entry_called, started, ending, status_of}
use Rattle.sc_meaning.specs.Behaviour as behaviour
use Rattle.sc_interp_machine.specs.Runs as runs
use Rattle.sc_interp_machine.specs.Runs.{Caller, State, Makes, Answers, Ends}
use Rattle.sc_interp_machine.proofs.RunFollows.{answers_meaning, ends_meaning}
use Rattle.sc_interp_access.specs.declared.stop.Stop.{Stop}
use Rattle.sc_interp_access.specs.Gives.{ending_of, Stops}
use Rattle.sc_interp.specs.declared.drive.Reached.{Reached}
use Rattle.sc_interp.specs.declared.going.Going.{Going}
use Rattle.sc_interp.specs.declared.drive.Reached.TheVariants as reached
use Rattle.sc_interp.specs.declared.stepped.Shown.{Shown}
use Rattle.sc_interp.specs.Shows.{shown, entry_shown, StepsShowing}
use Rattle.sc_interp.specs.Steps.{Brings, Steps, is_over}
use Rattle.sc_interp_access.specs.declared.ended.Ended.{Ended}
use Rattle.sc_interp_access.specs.declared.ended.Ended.TheVariants as ended
use Rattle.sc_interp.specs.Ends.{Finishes}
use Rattle.sc_interp.specs.Steady as steady
use Rattle.sc_interp.specs.Steady.{alone}
use Rattle.sc_interp.proofs.Unchanged.{quiet, present, callee_step, same_run}

not_empty : (c : Caller) (cs : List Caller) → c ∷ cs ≡ [] → ⊥
not_empty c cs p = cc

not_both : (b : Bool) → b ≡ false → b ≡ true → ⊥
not_both b p q = cc

-- where nothing is left to be done, steps change nothing
pub stays_answered : (k : ℕ) (h : History) (texts : List Text) (a : Answer) (w : World) → steady.ran k h texts (Answers a [] w) ≡ Answers a [] w
stays_answered zero h texts a w = refl
stays_answered (suc k) h texts a w = stays_answered k h texts a w

pub stays_ended : (k : ℕ) (h : History) (texts : List Text) (e : Ending) → steady.ran k h texts (Ends e) ≡ Ends e
stays_ended zero h texts e = refl
stays_ended (suc k) h texts e = stays_ended k h texts e

-- an answer is the run's where no caller waits
over_if : (a : Answer) (cs : List Caller) (w : World) (b : Bool) → (IsTrue b ↔ (cs ≡ [])) → b ≡ is_over (Answers a cs w)
over_if a [] w b e = e.1 refl
over_if a (c ∷ cs) w true e = absurd (not_empty c cs (e.0 refl))
over_if a (c ∷ cs) w false e = refl

pub over_where : (s : State) (a : Answer) (cs : List Caller) (w : World) (b : Bool) → s ≡ Answers a cs w → (IsTrue b ↔ (cs ≡ [])) → b ≡ is_over s
over_where s a cs w b is e = over_if a cs w b e ∙ sym (ap is_over is)

pub goes_on : (s : State) (a : Answer) (cs : List Caller) (w : World) (b : Bool) → s ≡ Answers a cs w → (IsTrue b ↔ (cs ≡ [])) → b ≡ false → is_over s ≡ false
goes_on s a cs w b is e not_over = sym (over_where s a cs w b is e) ∙ not_over

-- a run that is over is where it is after any more steps
pub over_there : (k : ℕ) (h : History) (texts : List Text) (t : State) (r : Reached) (w : World) → Brings t (Ok r) w → is_over t ≡ true → Brings (steady.ran k h texts t) (Ok r) w
over_there k h texts t (reached.Answer a) w p over = ap (steady.ran k h texts) p ∙ stays_answered k h texts a w
over_there k h texts t reached.Nowhere w p over = absurd (not_both (is_over t) p over)

pub ended_there : (k : ℕ) (h : History) (texts : List Text) (s : State) (e : Ending) → s ≡ Ends e → steady.ran k h texts s ≡ Ends e
ended_there k h texts s e p = ap (steady.ran k h texts) p ∙ stays_ended k h texts e

-- one step of those that are left
pub one_less : (k j : ℕ) (h : History) (texts : List Text) (s : State) → k ≡ j + 1 → steady.ran k h texts s ≡ steady.ran j h texts (steady.advance h texts s)
one_less k j h texts s is = ap (λ n. steady.ran n h texts s) (is ∙ add-one j)

-- no steps are left
pub none_left : (k : ℕ) (h : History) (texts : List Text) (t : State) (r : Result Reached Stop) (w : World) → k ≡ 0 → Brings t r w → Brings (steady.ran k h texts t) r w
none_left k h texts t r w is = subst (λ k. Brings (steady.ran k h texts t) r w) (sym is)

-- a step from a state that is another one
pub from_there : (h : History) (texts : List Text) (s t : State) (r : Result Shown Stop) (g : Going) (cs : List Caller) (w : World) → s ≡ t → StepsShowing (steady.advance h texts t) (shown h texts t) r g cs w → StepsShowing (steady.advance h texts s) (shown h texts s) r g cs w
from_there h texts s t r g cs w is = subst (λ s. StepsShowing (steady.advance h texts s) (shown h texts s) r g cs w) (sym is)

-- a step that makes a call
pub makes_there : (h : History) (texts : List Text) (s : State) (t : CType) (v : Value) (us vs : List Value) (c : Caller) (cs ds : List Caller) (w w2 : World) (g : Result Going Stop) (r : Result Shown Stop) (next : Going) → s ≡ Makes t v vs c cs w → us ≡ vs → Steps (steady.made_unless (value_rule texts c.env.text t v) h texts v us (c ∷ cs) w) g ds w2 → ((s : State) (cs : List Caller) (w : World) → Steps s g cs w → StepsShowing s (entry_shown s) r next cs w) → StepsShowing (steady.advance h texts s) (shown h texts s) r next ds w2
makes_there h texts s t v us vs c cs ds w w2 g r next is same p f =
    from_there h texts s (Makes t v vs c cs w) r next ds w2 is
    (f (steady.advance h texts (Makes t v vs c cs w)) ds w2 (subst (λ us. Steps (steady.made_unless (value_rule texts c.env.text t v) h texts v us (c ∷ cs) w) g ds w2) same p))

-- a step that failed ends the whole, as `?` passes its end on
pub ends_here : (t : State) (r : Result Reached Stop) (s : Stop) (w : World) → IsErrAnd r (λ e. e ≡ s) → ((e : Ending) → ending_of s w ≡ Some e → t ≡ Ends e) → Brings t r w
ends_here t r s w p f = let q = err_from_is_err_and r p in subst (λ r. Brings t r w) (sym (q.1 ∙ ap (λ e. Err e) q.2)) f

-- the first state of the call of a run's entry
abbrev pub first_of : List Text → Key → World → State
first_of texts key w = steady.callee_next (alone texts) key [] (callee_of texts key) [] (pass GoesOut w)

same_first : (texts : List Text) (key : Key) (w : World) → runs.callee_next (alone texts) key [] (callee_of (version_at (alone texts) w.count) key) [] w ≡ steady.callee_next (alone texts) key [] (callee_of texts key) [] w
same_first texts key w =
    ap (λ ts. runs.callee_next (alone texts) key [] (callee_of ts key) [] w) (present texts w.count)
    ∙ callee_step (alone texts) texts (quiet texts) (present texts) key [] (callee_of texts key) [] w

same_from : (k : ℕ) (texts : List Text) (key : Key) (w : World) → runs.ran k (alone texts) (runs.callee_next (alone texts) key [] (callee_of (version_at (alone texts) w.count) key) [] w) ≡ steady.ran k (alone texts) texts (steady.callee_next (alone texts) key [] (callee_of texts key) [] w)
same_from k texts key w =
    ap (runs.ran k (alone texts)) (same_first texts key w) ∙ same_run (alone texts) texts (quiet texts) (present texts) k (steady.callee_next (alone texts) key [] (callee_of texts key) [] w)

-- the births of one version
settled_once : (r : Outcome (Unit {0})) → and_then r (λ _ w. went w) ≡ r
settled_once (Done _ w) = refl
settled_once (Over e) = refl

abbrev begun_in : List Text → Start → Outcome (Unit {0})
begun_in texts s = statics_born texts (first_world s)

settles : (texts : List Text) (s : Start) → settled (alone texts) (first_world s) ≡ begun_in texts s
settles texts s = settled_once (begun_in texts s)

-- the run of a start whose history is one version
starts : (texts : List Text) (s : Start) (key : Key) (n : ℕ) → s.history ≡ alone texts → s.entry ≡ key → started n s ≡ and_then (begun_in texts s) (λ _ w. entry_called n (alone texts) key w)
starts texts s key n is at =
    ap (λ h. and_then (settled h (first_world s)) (λ _ w. entry_called n h s.entry w)) is
    ∙ ap (λ k. and_then (settled (alone texts) (first_world s)) (λ _ w. entry_called n (alone texts) k w)) at
    ∙ ap (λ r. and_then r (λ _ w. entry_called n (alone texts) key w)) (settles texts s)

pub births_end : (texts : List Text) (s : Start) (n : ℕ) (e : Ending) → s.history ≡ alone texts → begun_in texts s ≡ Over e → ending n s ≡ e
births_end texts s n e is p = ap behaviour.ending_of (starts texts s s.entry n is refl ∙ ap (λ r. and_then r (λ _ w. entry_called n (alone texts) s.entry w)) p)

comes : (texts : List Text) (s : Start) (key : Key) (n : ℕ) (w : World) (r : Outcome Answer) → s.history ≡ alone texts → s.entry ≡ key → begun_in texts s ≡ Done tt w → call n (alone texts) key [] (pass GoesOut w) ≡ r → ending n s ≡ behaviour.ending_of (and_then r (λ a w. Done a (pass ComesBack w)))
comes texts s key n w r is at p q =
    ap behaviour.ending_of (starts texts s key n is at ∙ ap (λ r. and_then r (λ _ w. entry_called n (alone texts) key w)) p ∙ ap (λ r. and_then r (λ a w. Done a (pass ComesBack w))) q)

pub run_ends : (texts : List Text) (s : Start) (key : Key) (k n : ℕ) (w : World) (e : Ending) → s.history ≡ alone texts → s.entry ≡ key → k < n → begun_in texts s ≡ Done tt w → steady.ran k (alone texts) texts (first_of texts key w) ≡ Ends e → ending n s ≡ e
run_ends texts s key k n w e is at lt p q =
    comes texts s key n w (Over e) is at p (ends_meaning (alone texts) k n key [] (pass GoesOut w) e (omega arith) (same_from k texts key (pass GoesOut w) ∙ q))

pub run_answers : (texts : List Text) (s : Start) (key : Key) (k n : ℕ) (w v : World) (a : Answer) → s.history ≡ alone texts → s.entry ≡ key → k < n → begun_in texts s ≡ Done tt w → steady.ran k (alone texts) texts (first_of texts key w) ≡ Answers a [] v → ending n s ≡ Exit (status_of a) (pass ComesBack v)
run_answers texts s key k n w v a is at lt p q =
    comes texts s key n w (Done a v) is at p (answers_meaning (alone texts) k n key [] (pass GoesOut w) v a (omega arith) (same_from k texts key (pass GoesOut w) ∙ q))

-- What a part of the program answers, where the births end the run, the call of the entry ends it, or the entry comes back.
pub births_finish : (texts : List Text) (s : Start) (steps : ℕ) (first w : World) (stop : Stop) → s.history ≡ alone texts → first ≡ first_world s → Stops (statics_born texts first) stop w → Finishes steps s (Err stop) w
births_finish texts s steps first w stop is begins stops = λ n lt e p.
    births_end texts s n e is (ap (statics_born texts) (sym begins) ∙ stops e p)

pub call_finishes : (texts : List Text) (s : Start) (key : Key) (steps : ℕ) (first born w : World) (stop : Stop) → s.history ≡ alone texts → s.entry ≡ key → first ≡ first_world s → statics_born texts first ≡ Done tt born → ((e : Ending) → ending_of stop w ≡ Some e → steady.ran steps (alone texts) texts (first_of texts key born) ≡ Ends e) → Finishes steps s (Err stop) w
call_finishes texts s key steps first born w stop is at begins p q = λ n lt e r.
    run_ends texts s key steps n born e is at lt (ap (statics_born texts) (sym begins) ∙ p) (q e r)

told : (e : Ending) (status : ℕ) (w : World) → Some (Exit status w) ≡ Some e → Exit status w ≡ e
told e status w p = cc

pub answer_finishes : (texts : List Text) (s : Start) (key : Key) (steps : ℕ) (first born v w : World) (a : Answer) (status : ℕ) → s.history ≡ alone texts → s.entry ≡ key → first ≡ first_world s → statics_born texts first ≡ Done tt born → steady.ran steps (alone texts) texts (first_of texts key born) ≡ Answers a [] v → status ≡ status_of a → w ≡ pass ComesBack v → Finishes steps s (Ok (ended.Exit status)) w
answer_finishes texts s key steps first born v w a status is at begins p q st back = λ n lt e r.
    run_answers texts s key steps n born v a is at lt (ap (statics_born texts) (sym begins) ∙ p) q ∙ ap (λ st. Exit st (pass ComesBack v)) (sym st) ∙ ap (Exit status) (sym back) ∙ told e status w r

pub steps_used_up : (texts : List Text) (s : Start) (key : Key) (steps : ℕ) (first born w : World) → s.history ≡ alone texts → s.entry ≡ key → first ≡ first_world s → statics_born texts first ≡ Done tt born → is_over (steady.ran steps (alone texts) texts (first_of texts key born)) ≡ false → Finishes steps s (Ok ended.OutOfSteps) w
steps_used_up texts s key steps first born w is at begins p over =
    (texts, is, born, ap (statics_born texts) (sym begins) ∙ p, subst (λ k. is_over (steady.ran steps (alone texts) texts (first_of texts k born)) ≡ false) (sym at) over)

-- a part that failed ends the whole, as `?` passes its end on
pub finishes_here : (s : Start) (steps : ℕ) (r : Result Ended Stop) (stop : Stop) (w : World) → IsErrAnd r (λ e. e ≡ stop) → Finishes steps s (Err stop) w → Finishes steps s r w
finishes_here s steps r stop w p f = let q = err_from_is_err_and r p in subst (λ r. Finishes steps s r w) (sym (q.1 ∙ ap (λ e. Err e) q.2)) f
