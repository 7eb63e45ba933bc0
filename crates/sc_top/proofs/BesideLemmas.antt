-- What the probes beside a session have of a command.
use Rattle.std.proofs.Common.{◌≡◌, ℕ, zero, suc, Bool, true, false, List, [], ◌∷◌, ◌++◌, map, Option, Some, None, Result, Ok, Err, MatchResult, refl, ◌∙◌, sym, ap, subst, inl, append_assoc}
use Rattle.std.specs.Prelude.{IfSome}
use Rattle.std.proofs.lemmas.List.{append-nil}
use Rattle.sc_base.specs.declared.note.Note.{Note}
use Rattle.sc_interp_world.specs.declared.account.Taken.{Taken}
use Rattle.sc_outside.specs.Stored.{FileMap}
use Rattle.sc_session.specs.Plain.{Plain}
use Rattle.sc_session.specs.Probing.{IsRecordOf, Reports as Answers_report}
use Rattle.sc_session.specs.Transcript.{AnswersTo, BreaksOff, Decides, Moment, Speaks, is_go, moment}
use Rattle.sc_session.specs.States.{refusal_of}
use Rattle.sc_session.specs.declared.state.State.{State}
use Rattle.sc_words.specs.Commands.{command_of}
use Rattle.sc_words.specs.declared.answer.Answer.{Answer}
use Rattle.sc_words.specs.declared.answer.Answer.TheVariants as answer
use Rattle.sc_words.specs.declared.command.Command.{Command}
use Rattle.sc_words.specs.declared.command.Command.TheVariants as command
use Rattle.sc_words.specs.declared.denied.Denied.{Denied}
use Rattle.sc_world.specs.declared.post.Unsent.{Unsent}
use Rattle.sc_top.specs.Attended.{HearBoth, all_retold, gone_in, is_reported, reported_as, retold}
use Rattle.sc_top.specs.Beside.{AllGain, AnswersBeside, Audience, EachGains, Hears, HearsSome, IsHandedOn, Reports, RunBeside, Seen, audience, dropping, gone, left_by, reporting}
use Rattle.sc_top.specs.Given.{EachIsGiven, GainedBy, first_mark, later_marks}
use Rattle.sc_top.specs.Listed.{TellsFor}
use Rattle.sc_top.specs.Spread.{notes_of}
use Rattle.sc_top.proofs.CountLemmas.{gone_unread}
use Rattle.sc_top.proofs.Gaining.{gained_alike, gained_given, same_head, same_tail}

-- ---- notes

pub gains_none : {A : Type 0} (see : Seen A) (n : ℕ) (ps qs : List A) (marks : List Bool) → map see.notes qs ≡ map see.notes ps → map see.faults qs ≡ map see.faults ps → EachGains n see [] ps qs marks marks
gains_none see zero ps qs marks same still = (same, still, refl)
gains_none see (suc n) [] [] marks same still = refl
gains_none see (suc n) [] (q ∷ qs) marks same still = absurd (cc)
gains_none see (suc n) (p ∷ ps) [] marks same still = absurd (cc)
gains_none see (suc n) (p ∷ ps) (q ∷ qs) marks same still = (
  gained_alike (see.notes p) (see.notes q) (see.faults p) (see.faults q) (first_mark marks) (same_head (see.notes q) (see.notes p) (map see.notes qs) (map see.notes ps) same)
      (same_head (see.faults q) (see.faults p) (map see.faults qs) (map see.faults ps) still),
  gains_none see n ps qs (later_marks marks) (same_tail (see.notes q) (see.notes p) (map see.notes qs) (map see.notes ps) same) (same_tail (see.faults q) (see.faults p) (map see.faults qs) (map see.faults ps) still),
)

same_gained : (given : List Note) (t u v : Option (List Note)) (l m n : ℕ) (a b : Bool) → u ≡ t → m ≡ l → GainedBy given u v m n a b → GainedBy given t v l n a b
same_gained given t u v l m n a b same still h = subst (λ x. GainedBy given x v l n a b) same (subst (λ k. GainedBy given u v k n a b) still h)

-- behind a list that tells the same
gains_behind : {A : Type 0} (see : Seen A) (given : List Note) (n : ℕ) (ps qs rs : List A) (ms os : List Bool) → map see.notes qs ≡ map see.notes ps → map see.faults qs ≡ map see.faults ps
    → EachGains n see given qs rs ms os → EachGains n see given ps rs ms os
gains_behind see given zero ps qs rs ms os same still h = (h.0 ∙ same, h.1 ∙ still, h.2)
gains_behind see given (suc n) [] [] rs ms os same still h = h
gains_behind see given (suc n) [] (q ∷ qs) rs ms os same still h = absurd (cc)
gains_behind see given (suc n) (p ∷ ps) [] rs ms os same still h = absurd (cc)
gains_behind see given (suc n) (p ∷ ps) (q ∷ qs) [] ms os same still h = absurd h
gains_behind see given (suc n) (p ∷ ps) (q ∷ qs) (r ∷ rs) ms os same still h = (
  same_gained given (see.notes p) (see.notes q) (see.notes r) (see.faults p) (see.faults q) (see.faults r) (first_mark ms) (first_mark os)
      (same_head (see.notes q) (see.notes p) (map see.notes qs) (map see.notes ps) same) (same_head (see.faults q) (see.faults p) (map see.faults qs) (map see.faults ps) still) h.0,
  gains_behind see given n ps qs rs (later_marks ms) (later_marks os) (same_tail (see.notes q) (see.notes p) (map see.notes qs) (map see.notes ps) same)
      (same_tail (see.faults q) (see.faults p) (map see.faults qs) (map see.faults ps) still) h.1,
)

gains_of : {A : Type 0} (see : Seen A) (given : List Note) (n : ℕ) (ps qs : List A) (ms os : List Bool) → EachIsGiven n see.notes see.faults given ps qs ms os → EachGains n see given ps qs ms os
gains_of see given zero ps qs ms os (same, rest) = (ap (map see.notes) same, ap (map see.faults) same, rest)
gains_of see given (suc n) [] [] ms os e = e
gains_of see given (suc n) [] (q ∷ qs) ms os e = absurd e
gains_of see given (suc n) (p ∷ ps) [] ms os e = absurd e
gains_of see given (suc n) (p ∷ ps) (q ∷ qs) [] os e = absurd e
gains_of see given (suc n) (p ∷ ps) (q ∷ qs) (m ∷ ms) [] e = absurd e
gains_of see given (suc n) (p ∷ ps) (q ∷ qs) (m ∷ ms) (o ∷ os) (this, those) = (gained_given see.notes see.faults given p q m o this, gains_of see given n ps qs ms os those)

-- ---- what is handed on

abbrev pub Handed : {A : Type 0} → Seen A → Bool → State → Audience A → Audience A → Type 0
Handed see goes s a b = (given : Taken) × IsHandedOn goes s given × AllGain see (notes_of given.entries) a b

nothing_on : (goes : Bool) (s : State) → IsHandedOn goes s (record { entries = []; before = 0; whole = false })
nothing_on goes s = record { quiet = λ e. refl; lost = λ e. refl; recorded = λ w is whole. absurd (cc) }

pub nothing_handed : {A : Type 0} (see : Seen A) (goes : Bool) (s : State) (ps : List A) (marks : List Bool) → Handed see goes s (audience ps marks) (audience ps marks)
nothing_handed see goes s ps marks = (record { entries = []; before = 0; whole = false }, nothing_on goes s, gains_none see 16 ps ps marks refl refl)

pub all_handed : {A : Type 0} (see : Seen A) (goes : Bool) (s : State) (taken : Taken) (entries : List _) (ps qs : List A) (ms os : List Bool) → goes ≡ true → taken.whole ≡ true → entries ≡ taken.entries → IsRecordOf s taken
    → EachIsGiven 16 see.notes see.faults (notes_of entries) ps qs ms os → Handed see goes s (audience ps ms) (audience qs os)
all_handed see goes s taken entries ps qs ms os goes_on whole is recorded given = (
  taken,
  record { quiet = λ e. absurd (let f = sym e ∙ goes_on in cc); lost = λ e. absurd (let f = sym e ∙ whole in cc); recorded = recorded },
  gains_of see (notes_of taken.entries) 16 ps qs ms os (subst (λ es. EachIsGiven 16 see.notes see.faults (notes_of es) ps qs ms os) is given),
)

-- ---- reports

some_same : (n k : ℕ) → Some n ≡ Some k → n ≡ k
some_same n k e = cc

reporting_is : (c : Command) (k : ℕ) → reporting c ≡ Some k → c ≡ command.Report k
reporting_is (command.Report n) k e = ap command.Report (some_same n k e)
reporting_is _ k e = absurd (cc)

as_report : (k : ℕ) (told : Option (List ℕ)) → Answers_report k (reported_as k told)
as_report k (Some text) = refl
as_report k None = tt

told_by : (o : Option Denied) (m : Moment) (k : ℕ) (front : List ℕ) (n : ℕ) (t : List ℕ) (new : Moment) (told : Option (List ℕ)) → Decides o m (command.Report k) front (answer.Reported n t) new
    → Decides o m (command.Report k) front (reported_as k told) new
told_by (Some d) m k front n t new told (none, is, same) = absurd (cc)
told_by None m k front n t new told (none, (said, same)) = (none, (as_report k told, same))

report_retold : (old : Moment) (k : ℕ) (front : List ℕ) (said : Answer) (new : Moment) (told : Option (List ℕ)) → AnswersTo old (command.Report k) front said new
    → AnswersTo old (command.Report k) front (retold (Some k) told said) new
report_retold old k front (answer.Reported n t) new told p =
    told_by (refusal_of old.session (command.Report k)) (moment old.session old.held old.faults) k front n t new told p
report_retold old k front _ new told p = p

retold_answers : (o : Option ℕ) (old : Moment) (c : Command) (front : List ℕ) (said : Answer) (new : Moment) (told : Option (List ℕ)) → o ≡ reporting c → AnswersTo old c front said new
    → AnswersTo old c front (retold o told said) new
retold_answers None old c front said new told e p = p
retold_answers (Some k) old c front said new told e p =
    let is : c ≡ command.Report k = reporting_is c k (sym e) in
    subst (λ d. AnswersTo old d front (retold (Some k) told said) new) (sym is) (report_retold old k front said new told (subst (λ d. AnswersTo old d front said new) is p))

-- a command is answered so with the text that a probe told as it was without it
pub all_told : (sink gained : Option (List ℕ)) (old : Moment) (c : Command) (r s : Result Answer Unsent) (held : Option FileMap) (new : Moment) (told : Option (List ℕ)) (o : Option ℕ) → o ≡ reporting c → s ≡ all_retold o told r
    → MatchResult r (λ said. Speaks sink gained old c said new) (λ _. BreaksOff sink gained old c held) → MatchResult s (λ said. Speaks sink gained old c said new) (λ _. BreaksOff sink gained old c held)
all_told sink gained old c (Ok said) s held new told o asked is (front, gains, (answers, quiet)) =
    subst (λ x. MatchResult x (λ said. Speaks sink gained old c said new) (λ _. BreaksOff sink gained old c held)) (sym is) (front, gains, (retold_answers o old c front said new told asked answers, quiet))
all_told sink gained old c (Err e) s held new told o asked is p =
    subst (λ x. MatchResult x (λ said. Speaks sink gained old c said new) (λ _. BreaksOff sink gained old c held)) (sym is) p

report_told : {A : Type 0} (see : Seen A) (ps : List A) (k : ℕ) (told : Option (List ℕ)) (said : Answer) → IfSome told (λ text. TellsFor see.report ps (command.Report k) text) → Reports see ps (Some k) (retold (Some k) told said)
report_told see ps k (Some text) (answer.Reported n t) p = p
report_told see ps k None (answer.Reported n t) p = tt
report_told see ps k told _ p = tt

reports_told : {A : Type 0} (see : Seen A) (ps : List A) (c : Command) (o : Option ℕ) (told : Option (List ℕ)) (said : Answer) → o ≡ reporting c → IfSome told (λ text. TellsFor see.report ps c text)
    → Reports see ps (reporting c) (retold o told said)
reports_told see ps c None told said e p = subst (λ x. Reports see ps x said) e tt
reports_told see ps c (Some k) told said e p =
    subst (λ x. Reports see ps x (retold (Some k) told said)) e (report_told see ps k told said (subst (λ d. IfSome told (λ text. TellsFor see.report ps d text)) (reporting_is c k (sym e)) p))

-- ---- a command

heard_so : {A : Type 0} (see : Seen A) (c : Command) (r : Result Answer Unsent) (told : Option (List ℕ)) (o : Option ℕ) (which : Option ℕ) (s : State) (ps qs : List A) (ms : List Bool) (b e : Audience A) → o ≡ reporting c
    → which ≡ gone_in (dropping c) (all_retold o told r) → IfSome told (λ text. TellsFor see.report ps c text) → map see.notes qs ≡ map see.notes ps → map see.faults qs ≡ map see.faults ps
    → Handed see (is_go c) s (audience qs ms) b → e ≡ left_by which b → HearBoth see c (all_retold o told r) s (audience ps ms) e
heard_so see c (Ok said) told o which s ps qs ms b e asked goes texts same still (given, handed, gains) left = record {
  reports = reports_told see ps c o told said asked texts;
  given = given;
  handed = handed;
  behind = b;
  gains = gains_behind see (notes_of given.entries) 16 ps qs b.probes ms b.marks same still gains;
  left = left ∙ ap (λ x. left_by x b) goes;
}
heard_so see c (Err x) told o which s ps qs ms b e asked goes texts same still (given, handed, gains) left = record {
  given = given;
  quiet = handed.quiet;
  gains = subst (λ y. AllGain see (notes_of given.entries) (audience ps ms) y) (sym (left ∙ ap (λ x. left_by x b) goes)) (gains_behind see (notes_of given.entries) 16 ps qs b.probes ms b.marks same still gains);
}

pub hear_both : {A : Type 0} (see : Seen A) (c : Command) (r t : Result Answer Unsent) (told : Option (List ℕ)) (o asked which : Option ℕ) (goes : Bool) (mid new : Plain) (ps qs : List A) (ms : List Bool) (b e : Audience A) → o ≡ reporting c
    → t ≡ all_retold o told r → asked ≡ dropping c → which ≡ gone_in asked t → goes ≡ is_go c → new ≡ mid
    → IfSome told (λ text. TellsFor see.report ps c text) → map see.notes qs ≡ map see.notes ps → map see.faults qs ≡ map see.faults ps
    → Handed see goes mid.state (audience qs ms) b → e ≡ left_by which b → HearBoth see c t new.state (audience ps ms) e
hear_both see c r t told o asked which goes mid new ps qs ms b e reports is drops gone_so on stays texts same still handed left =
    subst (λ x. HearBoth see c x new.state (audience ps ms) e) (sym is)
    (subst (λ (x : Plain). HearBoth see c (all_retold o told r) x.state (audience ps ms) e) (sym stays)
    (heard_so see c r told o which mid.state ps qs ms b e reports (gone_so ∙ ap (gone_in asked) is ∙ ap (λ x. gone_in x (all_retold o told r)) drops) texts same still
    (subst (λ x. Handed see x mid.state (audience qs ms) b) on handed) left))

-- ---- a line

no_report : {A : Type 0} (see : Seen A) (ps : List A) (o : Option ℕ) → Reports see ps o answer.NoMemory
no_report see ps None = tt
no_report see ps (Some k) = tt

-- want of memory before the command of a line was known
pub unread_heard : {A : Type 0} (see : Seen A) (c : Command) (s : State) (ps : List A) (ms : List Bool) → HearBoth see c (Ok answer.NoMemory) s (audience ps ms) (audience ps ms)
unread_heard see c s ps ms = record {
  reports = no_report see ps (reporting c);
  given = record { entries = []; before = 0; whole = false };
  handed = nothing_on (is_go c) s;
  behind = audience ps ms;
  gains = gains_none see 16 ps ps ms refl refl;
  left = sym (ap (λ x. left_by x (audience ps ms)) (gone_unread (dropping c)));
}

-- a command that was not carried out
pub unheard : {A : Type 0} (see : Seen A) (c : Command) (ps : List A) (ms : List Bool) → HearsSome see c (audience ps ms) (audience ps ms)
unheard see c ps ms = record { given = record { entries = []; before = 0; whole = false }; quiet = λ e. refl; gains = gains_none see 16 ps ps ms refl refl }

-- ---- lines

one_line : {A : Type 0} (see : Seen A) (old new : Moment) (a b : Audience A) (line said : List ℕ) → old.session.over ≡ false → AnswersBeside see old a line said new b → RunBeside see old a (line ∷ []) said new b
one_line see old new a b line said running answers = (new, b, said, [], running, answers, (refl, refl, refl), sym (append-nil said))

pub beside_more : {A : Type 0} (see : Seen A) (old mid new : Moment) (a m b : Audience A) (lines : List (List ℕ)) (line text said : List ℕ) → RunBeside see old a lines text mid m → mid.session.over ≡ false
    → AnswersBeside see mid m line said new b → RunBeside see old a (lines ++ line ∷ []) (text ++ said) new b
beside_more see old mid new a m b [] line text said (none, same, there) running answers =
    let from : RunBeside see mid m (line ∷ []) said new b = one_line see mid new m b line said running answers in
    let moved : RunBeside see old a (line ∷ []) said new b = subst (λ x. RunBeside see old x (line ∷ []) said new b) there (subst (λ x. RunBeside see x m (line ∷ []) said new b) same from) in
    subst (λ t. RunBeside see old a (line ∷ []) t new b) (ap (λ t. t ++ said) (sym none)) moved
beside_more see old mid new a m b (first ∷ lines) line text said (next, n, head, rest, going, answered, run, whole) running answers = (
  next,
  n,
  head,
  rest ++ said,
  going,
  answered,
  beside_more see next mid new n m b lines line rest said run running answers,
  ap (λ t. t ++ said) whole ∙ append_assoc head rest said,
)
