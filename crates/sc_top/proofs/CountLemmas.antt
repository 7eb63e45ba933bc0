-- How many probes a session counts: as many as before a command, or one less behind one that was dropped.
use Rattle.std.proofs.Common.{◌≡◌, ◌-◌, ◌<◌, ◌≤◌, ◌&&◌, ℕ, zero, suc, Bool, true, false, if◌then◌else◌, List, [], ◌∷◌, length, map, Option, Some, None, inl, inr, refl, ◌∙◌, sym, ap, subst, arith}
use Rattle.std.specs.Prelude.{nat_lt, remove}
use Rattle.std.proofs.lemmas.Bool.{ltb-true}
use Rattle.sc_base.specs.declared.key.Key.{Key}
use Rattle.sc_base.specs.declared.memory.Form.{Form}
use Rattle.sc_base.specs.declared.memory.Form.TheVariants as form
use Rattle.sc_session.specs.declared.choice.Choice.{Choice}
use Rattle.sc_session.specs.declared.choice.Choice.TheVariants as choice
use Rattle.sc_session.specs.declared.state.State.TheVariants as state
use Rattle.sc_session.specs.Evaluating.{Evaluates, RunsBy as EvaluatesBy, eval_key, with_text}
use Rattle.sc_session.specs.Going.{BeginsSo, IsGivenUp, Walks, cut_off, in_state}
use Rattle.sc_session.specs.Loading.{file_of, file_or}
use Rattle.sc_session.specs.Mixing.{Becomes, MixedBegins, MixedWalks, WalksBy, is_mixed}
use Rattle.sc_session.specs.Modules.{texts}
use Rattle.sc_session.specs.Plain.{Plain}
use Rattle.sc_session.specs.Probing.{Drops}
use Rattle.sc_session.specs.Single.{CarriesOne}
use Rattle.sc_session.specs.States.{refusal_of}
use Rattle.sc_session.specs.Stopping.{Sets}
use Rattle.sc_session.specs.Transcript.{AnswersTo, Carried, Decides, Edits, Loads, MixedRuns, Moment, Runs, RunsBy, Swaps, Unloads, asked, joined, moment, replaced, swapped, unloaded}
use Rattle.sc_session_forms.specs.Forms.{are_sources}
use Rattle.sc_words.specs.Commands.{command_of}
use Rattle.sc_words.specs.declared.answer.Answer.{Answer}
use Rattle.sc_words.specs.declared.answer.Answer.TheVariants as answer
use Rattle.sc_words.specs.declared.command.Command.{Command}
use Rattle.sc_words.specs.declared.command.Command.TheVariants as command
use Rattle.sc_words.specs.declared.denied.Denied.{Denied}
use Rattle.sc_words.specs.declared.stop.StopAt.{StopAt}
use Rattle.sc_words.specs.declared.stop.Walk.{Walk}
use Rattle.sc_words.specs.declared.stop.Walk.TheVariants as walk
use Rattle.sc_top.specs.Beside.{AllGain, Audience, EachGains, Hears, Seen, dropping, gone, left_by, without_one}
use Rattle.sc_top.specs.Listed.{may_go}
use Rattle.sc_top.specs.Transcript.{Answers, Replies}

abbrev pub count_by : Option ℕ → ℕ → ℕ
count_by None n = n
count_by (Some k) n = n - 1

-- the count behind a command, where this one goes: it is one that may
pub record Counts (o : Option ℕ) (old new : ℕ) : Type 0 where
  pub count : new ≡ count_by o old
  pub may : (k : ℕ) → o ≡ Some k → may_go k old ≡ true

none_some : (k : ℕ) → ◌≡◌ {A = Option ℕ} None (Some k) → ⊥
none_some k e = absurd (cc)

the_same : (n k : ℕ) → Some n ≡ Some k → n ≡ k
the_same n k e = cc

stays : (old new : ℕ) → new ≡ old → Counts None old new
stays old new e = record { count = e; may = λ k some. absurd (none_some k some) }

stays_by : (o : Option ℕ) (old new : ℕ) → o ≡ None → new ≡ old → Counts o old new
stays_by o old new none e = subst (λ x. Counts x old new) (sym none) (stays old new e)

-- ---- the commands

becomes : (session new : Plain) → Becomes session new → new.probes ≡ session.probes
becomes session new (s, relinks, is) = ap (λ (p : Plain). p.probes) is

same : (session new : Plain) → new ≡ session → new.probes ≡ session.probes
same session new e = ap (λ (p : Plain). p.probes) e

given_up : (session new : Plain) → IsGivenUp session new → new.probes ≡ session.probes
given_up session new (inl e) = same session new e
given_up session new (inr e) = same (in_state state.Ended session) new e

loads : (old : Moment) (name file : List ℕ) (said : Answer) (new : Moment) → Loads old name file said new → new.session.probes ≡ old.session.probes
loads old name file (answer.Loaded m) new (is, (built, fits, changed, held)) = becomes (joined old.session built) new.session changed
loads old name file (answer.Refused d) new (leaves, why) = same old.session new.session leaves.0
loads old name file answer.NoMemory new leaves = same old.session new.session leaves.0
loads old name file _ new p = absurd p

edits : (old : Moment) (name file : List ℕ) (said : Answer) (new : Moment) → Edits old name file said new → new.session.probes ≡ old.session.probes
edits old name file (answer.Edited m) new (is, (built, fits, changed, held)) = becomes (replaced old.session built) new.session changed
edits old name file (answer.Refused d) new (leaves, why) = same old.session new.session leaves.0
edits old name file answer.NoMemory new leaves = same old.session new.session leaves.0
edits old name file _ new p = absurd p

swaps : (old : Moment) (name : List ℕ) (f : Form) (c : Choice) (said : Answer) (new : Moment) → Swaps old name f c said new → new.session.probes ≡ old.session.probes
swaps old name f c (answer.Swapped m g) new (chosen, is, so, may, changed, held) = becomes (swapped old.session name f c) new.session changed
swaps old name f c (answer.SwappedFast m) new (chosen, is, may, changed, held) = becomes (swapped old.session name f c) new.session changed
swaps old name f c (answer.Refused d) new (is, leaves, why) = same old.session new.session leaves.0
swaps old name f c answer.NoMemory new leaves = same old.session new.session leaves.0
swaps old name f c _ new p = absurd p

unloads : (session : Plain) (name : List ℕ) (said : Answer) (new : Plain) → Unloads session name said new → new.probes ≡ session.probes
unloads session name (answer.Unloaded m) new (is, changed) = becomes (unloaded session name) new changed
unloads session name answer.NoMemory new e = same session new e
unloads session name _ new p = absurd p

sets : (session : Plain) (place : StopAt) (said : Answer) (new : Plain) → Sets session place said new → new.probes ≡ session.probes
sets session place (answer.StopSet n q) new (number, so, e) = ap (λ (p : Plain). p.probes) e
sets session place answer.NoMemory new e = same session new e
sets session place _ new p = absurd p

walks_alone : (session : Plain) (how : Walk) (front : List ℕ) (said : Answer) (new : Plain) → Walks session how front said new → new.probes ≡ session.probes
walks_alone session how front (answer.Ran text) new (r, runs, (s, went, e)) = ap (λ (p : Plain). p.probes) e
walks_alone session how front answer.NoMemory new (inl (none, e)) = same session new e
walks_alone session how front answer.NoMemory new (inr (first, e)) = same (cut_off front session) new e
walks_alone session how front _ new p = absurd p

walks_mixed : (session : Plain) (how : Walk) (said : Answer) (new : Plain) → MixedWalks session how said new → new.probes ≡ session.probes
walks_mixed session how (answer.Ran text) new (m, stands, (n, through, went)) = ap (λ (p : Plain). p.probes) went.follows
walks_mixed session how answer.NoMemory new p = given_up session new p
walks_mixed session how _ new p = absurd p

walks : (b : Bool) (session : Plain) (how : Walk) (front : List ℕ) (said : Answer) (new : Plain) → WalksBy b session how front said new → new.probes ≡ session.probes
walks false session how front said new p = walks_alone session how front said new p
walks true session how front said new p = walks_mixed session how said new p.1

carries_one : (session : Plain) (said : Answer) (new : Plain) → CarriesOne session said new → new.probes ≡ session.probes
carries_one session (answer.Ran text) new (m, stands, (n, through, went)) = ap (λ (p : Plain). p.probes) went.follows
carries_one session answer.NoMemory new p = given_up session new p
carries_one session _ new p = absurd p

-- a run that begins by a call of a function, of interpreted modules or of both forms
begins : (session : Plain) (key : Key) (bytes front : List ℕ) (said : Answer) (new : Plain) → BeginsSo session key bytes front said new → new.probes ≡ session.probes
begins session key bytes front (answer.Ran text) new (of, (s, went, e)) = ap (λ (p : Plain). p.probes) e
begins session key bytes front answer.NoMemory new (inl (none, e)) = same session new e
begins session key bytes front answer.NoMemory new (inr (first, e)) = same (cut_off front session) new e
begins session key bytes front _ new p = absurd p

mixed_begins : (session : Plain) (key : Key) (bytes : List ℕ) (said : Answer) (new : Plain) → MixedBegins session key bytes said new → new.probes ≡ session.probes
mixed_begins session key bytes (answer.Ran text) new (m, starts, went) = ap (λ (p : Plain). p.probes) went.follows
mixed_begins session key bytes answer.NoMemory new p = given_up session new p
mixed_begins session key bytes _ new p = absurd p

evaluates_by : (b : Bool) (session : Plain) (name front : List ℕ) (said : Answer) (new : Plain) → EvaluatesBy b session name front said new → new.probes ≡ session.probes
evaluates_by true session name front said new p = begins session (eval_key name) [] front said new p
evaluates_by false session name front said new p = mixed_begins session (eval_key name) [] said new p.1

evaluates : (session : Plain) (name line front : List ℕ) (said : Answer) (new : Plain) → Evaluates session name line front said new → new.probes ≡ session.probes
evaluates session name line front said new (inl (none, e, why)) = same session new e
evaluates session name line front said new (inr (t, asks, p)) = evaluates_by (are_sources (texts session.modules)) (with_text t session) name front said new p

runs_alone : (old : Moment) (file : Option (List ℕ)) (front : List ℕ) (said : Answer) (new : Moment) → Runs old file front said new → new.session.probes ≡ old.session.probes
runs_alone old file front (answer.Ran text) new (held, main, (bytes, input, (of, (s, went, e)))) = ap (λ (p : Plain). p.probes) e
runs_alone old file front (answer.Refused d) new (none, leaves, why) = same old.session new.session leaves.0
runs_alone old file front answer.NoMemory new (held, inl (none, e)) = same old.session new.session e
runs_alone old file front answer.NoMemory new (held, inr (first, e)) = same (cut_off front old.session) new.session e
runs_alone old file front _ new p = absurd p

runs_mixed : (old : Moment) (file : Option (List ℕ)) (said : Answer) (new : Moment) → MixedRuns old file said new → new.session.probes ≡ old.session.probes
runs_mixed old file (answer.Ran text) new (held, main, (bytes, input, (m, starts, went))) = ap (λ (p : Plain). p.probes) went.follows
runs_mixed old file (answer.Refused d) new (leaves, why) = same old.session new.session leaves.0
runs_mixed old file answer.NoMemory new (held, p) = given_up old.session new.session p
runs_mixed old file _ new p = absurd p

runs : (b : Bool) (old : Moment) (file : Option (List ℕ)) (front : List ℕ) (said : Answer) (new : Moment) → RunsBy b old file front said new → new.session.probes ≡ old.session.probes
runs true old file front said new p = runs_alone old file front said new p
runs false old file front said new p = runs_mixed old file said new p.1

if_may : (b : Bool) (d : Denied) → (if b then None else Some d) ≡ None → b ≡ true
if_may true d e = refl
if_may false d e = absurd (cc)

drops : (k : ℕ) (session : Plain) (said : Answer) (new : Plain) → refusal_of session (command.Drop k) ≡ None → Drops k session said new → Counts (gone (Some k) said) session.probes new.probes
drops k session (answer.Dropped n) new free (is, e) = record {
  count = ap (λ (p : Plain). p.probes) e;
  may = λ j some. subst (λ x. may_go x session.probes ≡ true) (the_same k j some) (if_may (nat_lt 0 k && nat_lt k session.probes) _ free);
}
drops k session answer.NoMemory new free e = stays session.probes new.probes (same session new e)
drops k session _ new free p = absurd p

here : (old new : Moment) → new ≡ old → Counts None old.session.probes new.session.probes
here old new e = stays old.session.probes new.session.probes (ap (λ (m : Moment). m.session.probes) e)

carried : (old : Moment) (c : Command) (front : List ℕ) (said : Answer) (new : Moment) → refusal_of (asked c old.session) c ≡ None → Carried (moment (asked c old.session) old.held old.faults) c front said new
    → Counts (gone (dropping c) said) old.session.probes new.session.probes
carried old command.Nothing front said new free (none, p) = here old new p.1
carried old (command.Load name) front said new free (none, p) = stays _ _ (loads old name (file_of name) said new p)
carried old (command.Unload name) front said new free (none, p) = stays _ _ (unloads old.session name said new.session p.0)
carried old (command.Swap name form) front said new free (none, p) = stays _ _ (swaps old name form choice.Plain said new p)
carried old (command.SwapFast name) front said new free (none, p) = stays _ _ (swaps old name form.Object choice.Fast said new p)
carried old (command.Edit name file) front said new free (none, p) = stays _ _ (edits old name (file_or name file) said new p)
carried old (command.Run file) front said new free p = stays _ _ (runs (are_sources (texts old.session.modules)) (moment (asked (command.Run file) old.session) old.held old.faults) file front said new p)
carried old (command.Stop place) front said new free (none, p) = stays _ _ (sets old.session place said new.session p.0)
carried old (command.Delete n) front said new free (none, p) = stays _ _ (ap (λ (s : Plain). s.probes) p.1)
carried old (command.Compile name) front said new free (none, p) = stays _ _ (same old.session new.session p.0)
carried old (command.CompileFast name) front said new free (none, p) = stays _ _ (same old.session new.session p.0)
carried old (command.Eval name line) front said new free p = stays _ _ (evaluates old.session name line front said new.session p.0)
carried old command.Step front said new free p = stays _ _ (walks (is_mixed old.session.state) old.session walk.Step front said new.session p.0)
carried old command.Next front said new free p = stays _ _ (walks (is_mixed old.session.state) old.session walk.Next front said new.session p.0)
carried old command.Cont front said new free p = stays _ _ (walks (is_mixed old.session.state) old.session walk.Cont front said new.session p.0)
carried old command.StepOne front said new free (none, p, files) = stays _ _ (carries_one old.session said new.session p)
carried old command.Frames front said new free (none, p) = here old new p.1
carried old (command.Print name) front said new free (none, p) = here old new p.1
carried old command.Machine front said new free (none, p) = here old new p.1
carried old (command.Disas home fun) front said new free (none, p) = here old new p.1
carried old (command.Xref name) front said new free (none, p) = here old new p.1
carried old (command.Whatis name) front said new free (none, p) = here old new p.1
carried old command.List front said new free (none, p) = here old new p.1
carried old (command.Report n) front said new free (none, p) = here old new p.1
carried old (command.Drop n) front said new free (none, p) = drops n old.session said new.session free p.0
carried old command.Reset front said new free (none, p) = stays _ _ (ap (λ (s : Plain). s.probes) p.1)
carried old command.Quit front said new free (none, p) = stays _ _ (ap (λ (s : Plain). s.probes) p.1)
carried old command.Unknown front said new free (none, p) = absurd p
carried old command.BadArguments front said new free (none, p) = absurd p

-- a refusal, or want of memory, lets none go
pub gone_refused : (o : Option ℕ) (d : Denied) → gone o (answer.Refused d) ≡ None
gone_refused None d = refl
gone_refused (Some k) d = refl

pub gone_unread : (o : Option ℕ) → gone o answer.NoMemory ≡ None
gone_unread None = refl
gone_unread (Some k) = refl

asked_count : (c : Command) (session : Plain) → (asked c session).probes ≡ session.probes
asked_count (command.Run file) session = refl
asked_count _ session = refl

decided : (o : Option Denied) (old : Moment) (c : Command) (front : List ℕ) (said : Answer) (new : Moment) → refusal_of (asked c old.session) c ≡ o → Decides o (moment (asked c old.session) old.held old.faults) c front said new
    → Counts (gone (dropping c) said) old.session.probes new.session.probes
decided (Some d) old c front said new told (none, is, e) =
    stays_by (gone (dropping c) said) old.session.probes new.session.probes (ap (gone (dropping c)) is ∙ gone_refused (dropping c) d) (ap (λ (m : Moment). m.session.probes) e ∙ asked_count c old.session)
decided None old c front said new told p = carried old c front said new told p

replies : (old : Moment) (line front : List ℕ) (said : Answer) (mid : Moment) → Replies old line front said mid → Counts (gone (dropping (command_of line)) said) old.session.probes mid.session.probes
replies old line front said mid (inl p) = decided (refusal_of (asked (command_of line) old.session) (command_of line)) old (command_of line) front said mid refl p
replies old line front said mid (inr (none, (known, is, e))) =
    stays_by (gone (dropping (command_of line)) said) old.session.probes mid.session.probes (ap (gone (dropping (command_of line))) is ∙ gone_unread (dropping (command_of line))) (ap (λ (m : Moment). m.session.probes) e)

-- ---- the list

alike_length : {A B : Type 0} (f : A → B) (ps qs : List A) → map f qs ≡ map f ps → length qs ≡ length ps
alike_length f [] [] e = refl
alike_length f [] (q ∷ qs) e = absurd (cc)
alike_length f (p ∷ ps) [] e = absurd (cc)
alike_length f (p ∷ ps) (q ∷ qs) e = ap suc (alike_length f ps qs (tails (f q) (f p) (map f qs) (map f ps) e))
  where
    tails : {X : Type 0} (a b : X) (xs ys : List X) → a ∷ xs ≡ b ∷ ys → xs ≡ ys
    tails a b xs ys e = cc

gains_length : {A : Type 0} (see : Seen A) (given : List _) (n : ℕ) (ps qs : List A) (ms os : List Bool) → EachGains n see given ps qs ms os → length qs ≡ length ps
gains_length see given zero ps qs ms os h = alike_length see.faults ps qs h.1
gains_length see given (suc n) [] [] ms os h = refl
gains_length see given (suc n) [] (q ∷ qs) ms os h = absurd h
gains_length see given (suc n) (p ∷ ps) [] ms os h = absurd h
gains_length see given (suc n) (p ∷ ps) (q ∷ qs) ms os h = ap suc (gains_length see given n ps qs _ _ h.1)

remove_length : {A : Type 0} (ps : List A) (k : ℕ) → k < length ps → length (remove ps k) ≡ length ps - 1
remove_length [] k within = absurd (omega (arith, within))
remove_length (p ∷ ps) zero within = omega arith
remove_length (p ∷ ps) (suc k) within = (let r = remove_length ps k (omega (arith, within)) in omega (arith, r, within))

right : (a b : Bool) → (a && b) ≡ true → b ≡ true
right true b e = e
right false b e = absurd (cc)

left_length : {A : Type 0} (o : Option ℕ) (n m : ℕ) (a : Audience A) → Counts o n m → n ≡ length a.probes → m ≡ length (left_by o a).probes
left_length None n m a counts is = counts.count ∙ is
left_length (Some k) n m a counts is =
    let may : may_go k (length a.probes) ≡ true = subst (λ x. may_go k x ≡ true) is (counts.may k refl) in
    let within : k < length a.probes = ltb-true k (length a.probes) (right (nat_lt 0 k) (nat_lt k (length a.probes)) may) in
    let gone_one : length (remove a.probes k) ≡ length a.probes - 1 = remove_length a.probes k within in
    counts.count ∙ ap (λ x. x - 1) is ∙ sym gone_one ∙ sym (ap (λ (b : Bool). length (if b then without_one k a else a).probes) may)

-- the session counts them behind a line as before it
pub line_counted : {A : Type 0} (see : Seen A) (old new : Moment) (line answered : List ℕ) (a b : Audience A) (r : Answers old line answered new) → Hears see (command_of line) r.said r.mid.session.state a b
    → old.session.probes ≡ length a.probes → new.session.probes ≡ length b.probes
line_counted see old new line answered a b r h is =
    let same_length : length h.behind.probes ≡ length a.probes = gains_length see _ 16 a.probes h.behind.probes a.marks h.behind.marks h.gains in
    ap (λ (m : Moment). m.session.probes) r.after
    ∙ left_length (gone (dropping (command_of line)) r.said) old.session.probes r.mid.session.probes h.behind (replies old line r.front r.said r.mid r.replies) (is ∙ sym same_length)
    ∙ sym (ap (λ (x : Audience _). length x.probes) h.left)
