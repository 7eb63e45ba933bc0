-- What a command asks for, and its answer.
use Rattle.std.proofs.Common.{◌≡◌, Bool, true, List, [], ℕ, Option, Some, None, Result, Ok, Err, MatchResult, refl, sym, ap, subst}
use Rattle.sc_outside.specs.Stored.{FileMap}
use Rattle.sc_session_forms.specs.Forms.{are_sources}
use Rattle.sc_words.specs.Commands.{IsNamed}
use Rattle.sc_words.specs.declared.answer.Answer.{Answer}
use Rattle.sc_words.specs.declared.answer.Answer.TheVariants as answer
use Rattle.sc_words.specs.declared.command.Command.{Command}
use Rattle.sc_words.specs.declared.command.Command.TheVariants as command
use Rattle.sc_words.specs.declared.denied.Denied.{Denied}
use Rattle.sc_words.specs.declared.stop.Walk.{Walk}
use Rattle.sc_words.specs.declared.stop.Walk.TheVariants as walk
use Rattle.sc_world.proofs.Posting.{appends_none}
use Rattle.sc_world.specs.declared.post.Unsent.{Unsent}
use Rattle.sc_session.specs.declared.asking.Asked.{Asked}
use Rattle.sc_session.specs.declared.asking.Asked.TheVariants as wish
use Rattle.sc_session.specs.declared.asking.Deed.{Deed}
use Rattle.sc_session.specs.declared.asking.Deed.TheVariants as deed
use Rattle.sc_session.specs.declared.asking.Go.{Go}
use Rattle.sc_session.specs.declared.asking.Go.TheVariants as go
use Rattle.sc_session.specs.declared.state.State.TheVariants as state
use Rattle.sc_words.specs.declared.denied.Denied.TheVariants as why
use Rattle.sc_session.specs.Asking.{AsksFor, deed_command, go_command, walk_command}
use Rattle.sc_session.specs.Evaluating.{EvaluatesOut}
use Rattle.sc_session.specs.Mixing.{is_mixed}
use Rattle.sc_session.specs.Plain.{Plain}
use Rattle.sc_session.specs.Single.{CarriesOne}
use Rattle.sc_session.specs.States.{refusal_of}
use Rattle.sc_session.specs.Transcript.{Moment, moment, asked, is_go, AnswersTo, BreaksOff, Decides, Does, GoesOut, RunsOutBy, Speaks, WalksOutBy}
use Rattle.sc_session.specs.Modules.{texts}
use Rattle.sc_session.proofs.SendingLemmas.{conts_so, done_answer, nexts_so, refused_answer, runs_so, steps_so}

-- ---- what is asked for

go_by : (c : Command) (a : Asked) (g : Go) → AsksFor c a → a ≡ wish.Go g → c ≡ go_command g
go_by c a g asks is = subst (AsksFor c) is asks

deed_by : (c : Command) (a : Asked) (d : Deed) → AsksFor c a → a ≡ wish.Do d → c ≡ deed_command d
deed_by c a d asks is = subst (AsksFor c) is asks

pub go_named : (c : Command) (a : Asked) (g : Go) → AsksFor c a → a ≡ wish.Go g → IsNamed c → IsNamed (go_command g)
go_named c a g asks is named = subst IsNamed (go_by c a g asks is) named

pub deed_named : (c : Command) (a : Asked) (d : Deed) → AsksFor c a → a ≡ wish.Do d → IsNamed c → IsNamed (deed_command d)
deed_named c a d asks is named = subst IsNamed (deed_by c a d asks is) named

pub walk_asks : (how : Walk) (session : Plain) → asked (walk_command how) session ≡ session
walk_asks walk.Step session = refl
walk_asks walk.Next session = refl
walk_asks walk.Cont session = refl

walk_goes : (how : Walk) → is_go (walk_command how) ≡ true
walk_goes walk.Step = refl
walk_goes walk.Next = refl
walk_goes walk.Cont = refl

pub go_goes : (g : Go) → is_go (go_command g) ≡ true
go_goes (go.Run file) = refl
go_goes (go.Eval name line) = refl
go_goes (go.Walk how) = walk_goes how
go_goes go.One = refl

pub deed_asks : (d : Deed) (session : Plain) → asked (deed_command d) session ≡ session
deed_asks deed.Nothing session = refl
deed_asks (deed.Load name) session = refl
deed_asks (deed.Unload name) session = refl
deed_asks (deed.Swap name form) session = refl
deed_asks (deed.SwapFast name) session = refl
deed_asks (deed.Edit name file) session = refl
deed_asks (deed.Compile name) session = refl
deed_asks (deed.CompileFast name) session = refl
deed_asks (deed.Stop place) session = refl
deed_asks (deed.Delete k) session = refl
deed_asks deed.Frames session = refl
deed_asks (deed.Print name) session = refl
deed_asks deed.Machine session = refl
deed_asks (deed.Disas home fun) session = refl
deed_asks (deed.Xref name) session = refl
deed_asks (deed.Whatis name) session = refl
deed_asks deed.List session = refl
deed_asks (deed.Report k) session = refl
deed_asks (deed.Drop k) session = refl
deed_asks deed.Reset session = refl
deed_asks deed.Quit session = refl

-- ---- the answers

-- what came of a go
pub go_said : (sink gained : Option (List ℕ)) (old : Moment) (c : Command) (a : Asked) (g : Go) (out : Result Answer Unsent) (new : Moment) → AsksFor c a → a ≡ wish.Go g
    → MatchResult out (λ said. Speaks sink gained old (go_command g) said new) (λ _. BreaksOff sink gained old (go_command g) new.held)
    → MatchResult out (λ said. Speaks sink gained old c said new) (λ _. BreaksOff sink gained old c new.held)
go_said sink gained old c a g out new asks is said =
    subst (λ x. MatchResult out (λ said. Speaks sink gained old x said new) (λ _. BreaksOff sink gained old x new.held)) (sym (go_by c a g asks is)) said

-- what is answered while no program goes on
speaks_alone : (sink : Option (List ℕ)) (old : Moment) (c : Command) (said : Answer) (new : Moment) → AnswersTo old c [] said new → Speaks sink sink old c said new
speaks_alone sink old c said new answers = ([], appends_none sink, (answers, λ quiet. refl))

pub deed_said : (sink : Option (List ℕ)) (old : Moment) (c : Command) (a : Asked) (d : Deed) (said : Answer) (new : Moment) → AsksFor c a → a ≡ wish.Do d
    → AnswersTo old (deed_command d) [] said new → Speaks sink sink old c said new
deed_said sink old c a d said new asks is answers =
    speaks_alone sink old c said new (subst (λ x. AnswersTo old x [] said new) (sym (deed_by c a d asks is)) answers)

-- what is refused in each session
unasked : (c : Command) (session : Plain) (d : Denied) → ((s : Plain) → refusal_of s c ≡ Some d) → asked c session ≡ session
unasked command.Nothing session d denied = refl
unasked command.Unknown session d denied = refl
unasked command.BadArguments session d denied = refl
unasked (command.Load name) session d denied = refl
unasked (command.Unload name) session d denied = refl
unasked (command.Swap name form) session d denied = refl
unasked (command.SwapFast name) session d denied = refl
unasked (command.Edit name file) session d denied = refl
unasked (command.Compile name) session d denied = refl
unasked (command.CompileFast name) session d denied = refl
unasked (command.Run file) session d denied = absurd (free_then file session d denied)
  where
    none_some : (d : Denied) → ◌≡◌ {A = Option Denied} None (Some d) → ⊥
    none_some d e = absurd (cc)

    free_then : (file : Option (List ℕ)) (session : Plain) (d : Denied) → ((s : Plain) → refusal_of s (command.Run file) ≡ Some d) → ⊥
    free_then file session d denied = none_some d (denied (record session { state = state.Idle }))
unasked (command.Eval name line) session d denied = absurd (two_reasons d (denied (record session { state = state.Stopped None })) (denied (record session { state = state.Idle; modules = [] })))
  where
    two_reasons : (d : Denied) → Some why.RunActive ≡ Some d → Some why.NoModule ≡ Some d → ⊥
    two_reasons d p q = cc
unasked (command.Stop place) session d denied = refl
unasked (command.Delete k) session d denied = refl
unasked command.Step session d denied = refl
unasked command.Next session d denied = refl
unasked command.Cont session d denied = refl
unasked command.StepOne session d denied = refl
unasked command.Frames session d denied = refl
unasked (command.Print name) session d denied = refl
unasked command.Machine session d denied = refl
unasked (command.Disas home fun) session d denied = refl
unasked (command.Xref name) session d denied = refl
unasked (command.Whatis name) session d denied = refl
unasked command.List session d denied = refl
unasked (command.Report k) session d denied = refl
unasked (command.Drop k) session d denied = refl
unasked command.Reset session d denied = refl
unasked command.Quit session d denied = refl

refused_by : (sink : Option (List ℕ)) (old : Moment) (c : Command) (d : Denied) → ((s : Plain) → refusal_of s c ≡ Some d) → Speaks sink sink old c (answer.Refused d) old
refused_by sink old c d denied =
    speaks_alone sink old c (answer.Refused d) old (refused_answer old c old.session (refusal_of old.session c) (sym (unasked c old.session d denied)) refl d (denied old.session))

pub never_said : (sink : Option (List ℕ)) (old : Moment) (c : Command) (a : Asked) (d : Denied) → AsksFor c a → a ≡ wish.Refused d → Speaks sink sink old c (answer.Refused d) old
never_said sink old c a d asks is = refused_by sink old c d (subst (AsksFor c) is asks)

-- ---- each

pub deed_refused : (old : Moment) (d : Deed) (r : Option Denied) (denied : Denied) → r ≡ refusal_of old.session (deed_command d) → r ≡ Some denied
    → AnswersTo old (deed_command d) [] (answer.Refused denied) old
deed_refused old d r denied told is = refused_answer old (deed_command d) old.session r (sym (deed_asks d old.session)) told denied is

pub deed_done : (old new : Moment) (d : Deed) (r : Option Denied) (said : Answer) → r ≡ refusal_of old.session (deed_command d) → r ≡ None
    → Does old (deed_command d) said new → AnswersTo old (deed_command d) [] said new
deed_done old new d r said told free does = done_answer old (deed_command d) old.session r (sym (deed_asks d old.session)) told new said free does

walks_by : (sink gained : Option (List ℕ)) (old new : Plain) (held : Option FileMap) (faults : ℕ) (how : Walk) (out : Result Answer Unsent) → WalksOutBy (is_mixed old.state) sink gained old how out new
    → GoesOut sink gained (moment old held faults) (walk_command how) out (moment new held faults)
walks_by sink gained old new held faults walk.Step out p = steps_so sink gained old new held faults command.Step out refl p
walks_by sink gained old new held faults walk.Next out p = nexts_so sink gained old new held faults command.Next out refl p
walks_by sink gained old new held faults walk.Cont out p = conts_so sink gained old new held faults command.Cont out refl p

pub walk_said : (sink gained : Option (List ℕ)) (old new : Plain) (held : Option FileMap) (faults : ℕ) (g : Go) (how : Walk) (out : Result Answer Unsent) → g ≡ go.Walk how
    → WalksOutBy (is_mixed old.state) sink gained old how out new → GoesOut sink gained (moment old held faults) (go_command g) out (moment new held faults)
walk_said sink gained old new held faults g how out is p =
    subst (λ x. GoesOut sink gained (moment old held faults) (go_command x) out (moment new held faults)) (sym is) (walks_by sink gained old new held faults how out p)

pub one_said : (sink : Option (List ℕ)) (old new : Plain) (held : Option FileMap) (faults : ℕ) (g : Go) (said : Answer) → g ≡ go.One
    → CarriesOne old said new → GoesOut sink sink (moment old held faults) (go_command g) (Ok said) (moment new held faults)
one_said sink old new held faults g said is p =
    subst (λ x. GoesOut sink sink (moment old held faults) (go_command x) (Ok said) (moment new held faults)) (sym is) ([], appends_none sink, (refl, p, (refl, refl)))

pub eval_said : (sink gained : Option (List ℕ)) (old new : Plain) (held : Option FileMap) (faults : ℕ) (g : Go) (name line : List ℕ) (out : Result Answer Unsent) → g ≡ go.Eval name line
    → EvaluatesOut sink gained old name line out new → GoesOut sink gained (moment old held faults) (go_command g) out (moment new held faults)
eval_said sink gained old new held faults g name line (Ok said) is (front, gains, p) =
    subst (λ x. GoesOut sink gained (moment old held faults) (go_command x) (Ok said) (moment new held faults)) (sym is) (front, gains, (p, (refl, refl)))
eval_said sink gained old new held faults g name line (Err e) is p =
    subst (λ x. GoesOut sink gained (moment old held faults) (go_command x) (Err e) (moment new held faults)) (sym is) p

pub run_said : (sink gained : Option (List ℕ)) (old new : Moment) (g : Go) (file : Option (List ℕ)) (out : Result Answer Unsent) → g ≡ go.Run file
    → RunsOutBy (are_sources (texts old.session.modules)) sink gained old file out new → GoesOut sink gained old (go_command g) out new
run_said sink gained old new g file out is p =
    subst (λ x. GoesOut sink gained old (go_command x) out new) (sym is) (runs_so sink gained old new file (command.Run file) out refl p)
