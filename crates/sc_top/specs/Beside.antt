-- Yardstick: to be compared with what it restates (docs/TRUST.md).
-- The probes beside a session, from line to line: the notes that they are given, the reports that are asked of them, and the one that goes.
use Rattle.std.specs.Prelude.{◌≡◌, ◌⊎◌, ℕ, zero, suc, Bool, false, if◌then◌else◌, List, [], ◌∷◌, ◌++◌, length, map, remove, replicate, Option, Some, None, Result, Ok, Err, ⊤}
use Rattle.sc_base.specs.declared.note.Note.{Note}
use Rattle.sc_interp_world.specs.declared.account.Taken.{Taken}
use Rattle.sc_outside.specs.Stored.{FileMap}
use Rattle.sc_outside.specs.Streams.{AppendsSome}
use Rattle.sc_session.specs.Probing.{IsRecordOf}
use Rattle.sc_session.specs.Transcript.{Moment, moment, is_go}
use Rattle.sc_session.specs.declared.state.State.{State}
use Rattle.sc_words.specs.Commands.{command_of}
use Rattle.sc_words.specs.declared.answer.Answer.{Answer}
use Rattle.sc_words.specs.declared.answer.Answer.TheVariants as answer
use Rattle.sc_words.specs.declared.command.Command.{Command}
use Rattle.sc_words.specs.declared.command.Command.TheVariants as command
use Rattle.sc_top.specs.Given.{GainedBy, first_mark, later_marks}
use Rattle.sc_top.specs.Listed.{TellsAt, marks_without, may_go}
use Rattle.sc_top.specs.Sessions.{EndedBetween, BrokenOff}
use Rattle.sc_top.specs.Spread.{notes_of}
use Rattle.sc_top.specs.Transcript.{Answers}
use Rattle.sc_top.specs.declared.status.Status.{Status}

-- what is seen of a probe: the notes that it keeps and its report, where it tells them, and its count of faults
pub record Seen (A : Type 0) : Type 0 where
  pub notes : A → Option (List Note)
  pub faults : A → ℕ
  pub report : A → Option (List ℕ)

abbrev pub seen : {A : Type 0} → (A → Option (List Note)) → (A → ℕ) → (A → Option (List ℕ)) → Seen A
seen notes faults report = record { notes = notes; faults = faults; report = report }

-- some probes, and the marks of the first sixteen by their places: whether one lost a note
pub record Audience (A : Type 0) : Type 0 where
  pub probes : List A
  pub marks : List Bool

abbrev pub audience : {A : Type 0} → List A → List Bool → Audience A
audience ps marks = record { probes = ps; marks = marks }

-- none lost one yet
abbrev pub unmarked : {A : Type 0} → List A → Audience A
unmarked ps = audience ps (replicate 16 false)

-- ---- notes

-- What each of the first n gained of some notes, by its place (GainedBy). The others gained none.
abbrev pub EachGains : {A : Type 0} → ℕ → Seen A → List Note → List A → List A → List Bool → List Bool → Type 0
EachGains zero see given ps qs marks marks' = (map see.notes qs ≡ map see.notes ps) × (map see.faults qs ≡ map see.faults ps) × (marks' ≡ marks)
EachGains (suc n) see given [] [] marks marks' = marks' ≡ marks
EachGains (suc n) see given (p ∷ ps) (q ∷ qs) marks marks' =
    GainedBy given (see.notes p) (see.notes q) (see.faults p) (see.faults q) (first_mark marks) (first_mark marks') × EachGains n see given ps qs (later_marks marks) (later_marks marks')
EachGains (suc n) see given _ _ _ _ = ⊥

abbrev pub AllGain : {A : Type 0} → Seen A → List Note → Audience A → Audience A → Type 0
AllGain see given old new = EachGains 16 see given old.probes new.probes old.marks new.marks

-- What is handed on as a command is carried out, by whether it lets the program go on: nothing where it does not, or where some of it was lost
-- for want of memory; else what was recorded of the run, which behind it stands so.
pub record IsHandedOn (goes : Bool) (s : State) (given : Taken) : Type 0 where
  pub quiet : goes ≡ false → given.entries ≡ []
  pub lost : given.whole ≡ false → given.entries ≡ []
  pub recorded : IsRecordOf s given

-- ---- reports

-- of which probe a command asks a report
abbrev pub reporting : Command → Option ℕ
reporting (command.Report k) = Some k
reporting _ = None

-- a report has the text of that probe
abbrev pub Reports : {A : Type 0} → Seen A → List A → Option ℕ → Answer → Type 0
Reports see ps None said = ⊤
Reports see ps (Some k) (answer.Reported n text) = TellsAt see.report ps k (Some text)
Reports see ps (Some k) _ = ⊤

-- ---- a probe that goes

-- which one a command asks to go, and which goes as this is answered
abbrev pub dropping : Command → Option ℕ
dropping (command.Drop k) = Some k
dropping _ = None

abbrev pub gone : Option ℕ → Answer → Option ℕ
gone None said = None
gone (Some k) (answer.Dropped n) = Some k
gone (Some k) _ = None

-- the others stay, each with its mark
abbrev pub without_one : {A : Type 0} → ℕ → Audience A → Audience A
without_one k a = audience (remove a.probes k) (marks_without k a.marks)

abbrev pub left_by : {A : Type 0} → Option ℕ → Audience A → Audience A
left_by None a = a
left_by (Some k) a = if may_go k (length a.probes) then without_one k a else a

-- ---- a line

-- What the probes have of a command that was answered so, behind which the run stands so: a report is asked before, then they are given notes, and
-- then one goes.
pub record Hears {A : Type 0} (see : Seen A) (c : Command) (said : Answer) (s : State) (old new : Audience A) : Type 0 where
  pub reports : Reports see old.probes (reporting c) said
  pub given : Taken
  pub handed : IsHandedOn (is_go c) s given
  pub behind : Audience A
  pub gains : AllGain see (notes_of given.entries) old behind
  pub left : new ≡ left_by (gone (dropping c) said) behind

-- what they have of one that was not answered
pub record HearsSome {A : Type 0} (see : Seen A) (c : Command) (old new : Audience A) : Type 0 where
  pub given : Taken
  pub quiet : is_go c ≡ false → given.entries ≡ []
  pub gains : AllGain see (notes_of given.entries) old new

-- a line's answer, and what the probes have of it: there are as many as the session counts
pub record AnswersBeside {A : Type 0} (see : Seen A) (old : Moment) (a : Audience A) (line answered : List ℕ) (new : Moment) (b : Audience A) : Type 0 where
  pub answers : Answers old line answered new
  pub counted : old.session.probes ≡ length a.probes
  pub hears : Hears see (command_of line) answers.said answers.mid.session.state a b

-- the answers to these lines, one after the other
abbrev pub RunBeside : {A : Type 0} → Seen A → Moment → Audience A → List (List ℕ) → List ℕ → Moment → Audience A → Type 0
RunBeside {A} see old a [] text new b = (text ≡ []) × (new ≡ old) × (b ≡ a)
RunBeside {A} see old a (line ∷ lines) text new b = (mid : Moment) × (m : Audience A) × (first : List ℕ) × (rest : List ℕ)
    × (old.session.over ≡ false) × AnswersBeside see old a line first mid m × RunBeside see mid m lines rest new b × (text ≡ first ++ rest)

-- ---- a session

-- A session that ended with this status between two lines or within one (Sessions), beside probes that had lost nothing: what became of them.
abbrev pub BesideBetween : {A : Type 0} → Seen A → Option (List ℕ) → Option (List ℕ) → Option (List ℕ) → Moment → Option FileMap × ℕ → Status → Audience A → Audience A → Type 0
BesideBetween see commands old new first after status a b =
    (e : EndedBetween commands old new first after status) × RunBeside see first a e.lines e.text (moment e.last after.0 after.1) b

abbrev pub BesideWithin : {A : Type 0} → Seen A → Option (List ℕ) → Option (List ℕ) → Option (List ℕ) → Moment → Option FileMap × ℕ → Status → Audience A → Audience A → Type 0
BesideWithin {A} see commands old new first after status a b =
    (text : List ℕ) × (front : List ℕ) × (e : BrokenOff commands first after status text front) × (m : Audience A)
    × RunBeside see first a e.lines text e.last m × HearsSome see (command_of e.line) m b × AppendsSome old new (text ++ front)

pub record EndedBeside {A : Type 0} (see : Seen A) (commands old new : Option (List ℕ)) (first : Moment) (after : Option FileMap × ℕ) (status : Status) (before behind : List A) : Type 0 where
  pub marks : List Bool
  pub way : BesideBetween see commands old new first after status (unmarked before) (audience behind marks) ⊎ BesideWithin see commands old new first after status (unmarked before) (audience behind marks)
