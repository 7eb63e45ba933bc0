-- Inside: plumbing, a representation, an invariant or a promise beside the claim (docs/TRUST.md).
-- A session and the probes beside it, from line to line, where some answers may still wait to be written.
use Rattle.std.specs.Prelude.{◌≡◌, ◌⊎◌, ℕ, Bool, true, false, if◌then◌else◌, List, ◌++◌, length, Option, Some, None, Result, Ok, Err, MatchResult}
use Rattle.sc_outside.specs.Stored.{FileMap}
use Rattle.sc_session.specs.Transcript.{Moment, moment}
use Rattle.sc_session.specs.declared.state.State.{State}
use Rattle.sc_words.specs.Commands.{command_of}
use Rattle.sc_words.specs.declared.answer.Answer.{Answer}
use Rattle.sc_words.specs.declared.answer.Answer.TheVariants as answer
use Rattle.sc_words.specs.declared.command.Command.{Command}
use Rattle.sc_world.specs.declared.post.Unsent.{Unsent}
use Rattle.sc_top.specs.Beside.{Audience, Hears, HearsSome, RunBeside, Seen, gone}
use Rattle.sc_top.specs.Sessions.{BreaksOff, BrokenOff, GoesOn, LineAnswered, ReachedBetween}
use Rattle.sc_top.specs.Waiting.{IsPartlyOnItsWay}
use Rattle.sc_top.specs.declared.line.Progress.{Progress}
use Rattle.sc_top.specs.declared.status.Status.{Status}

-- ---- what the code finds

-- whether there is a report, and the same with the text that the probe told
abbrev pub is_reported : Answer → Bool
is_reported (answer.Reported k text) = true
is_reported _ = false

abbrev pub reported_as : ℕ → Option (List ℕ) → Answer
reported_as k (Some text) = answer.Reported k text
reported_as k None = answer.NoMemory

abbrev pub retold : Option ℕ → Option (List ℕ) → Answer → Answer
retold None told said = said
retold (Some k) told said = if is_reported said then reported_as k told else said

abbrev pub all_retold : Option ℕ → Option (List ℕ) → Result Answer Unsent → Result Answer Unsent
all_retold asked told (Ok said) = Ok (retold asked told said)
all_retold asked told (Err e) = Err e

-- which one goes
abbrev pub gone_in : Option ℕ → Result Answer Unsent → Option ℕ
gone_in asked (Ok said) = gone asked said
gone_in asked (Err e) = None

-- what the probes have of a command, answered or not
abbrev pub HearBoth : {A : Type 0} → Seen A → Command → Result Answer Unsent → State → Audience A → Audience A → Type 0
HearBoth see c result s a b = MatchResult result (λ said. Hears see c said s a b) (λ _. HearsSome see c a b)

-- ---- lines

-- a session that goes on
pub record Attends {A : Type 0} (see : Seen A) (commands ahead old new : Option (List ℕ)) (first : Moment) (a : Audience A) (count : ℕ) (waiting : List ℕ) (last : Moment) (b : Audience A) : Type 0 where
  pub on : GoesOn commands ahead old new first count waiting last
  pub beside : RunBeside see first a on.lines on.text last b
  pub counted : last.session.probes ≡ length b.probes

-- a line that was answered, or not
abbrev pub LineBeside : {A : Type 0} → Seen A → Moment → List ℕ → Moment → Option (List ℕ) → Option (List ℕ) → List ℕ → List ℕ → Progress → Audience A → Audience A → Type 0
LineBeside see before line after old new waited waiting result a b =
    ((r : LineAnswered before line after old new waited waiting result) × Hears see (command_of line) r.answers.said r.answers.mid.session.state a b)
    ⊎ (BreaksOff before line after.held old new waited waiting result × HearsSome see (command_of line) a b)

-- a session that ended with this status between two lines or within one, before what waits is written
abbrev pub ReachedBeside : {A : Type 0} → Seen A → Option (List ℕ) → Option (List ℕ) → Option (List ℕ) → Moment → Option FileMap × ℕ → List ℕ → Status → Audience A → Audience A → Type 0
ReachedBeside {A} see commands old new first after waiting status a b =
    ((r : ReachedBetween commands old new first after waiting status) × RunBeside see first a r.lines r.text (moment r.last after.0 after.1) b)
    ⊎ ((text : List ℕ) × (front : List ℕ) × (r : BrokenOff commands first after status text front) × (m : Audience A)
    × RunBeside see first a r.lines text r.last m × HearsSome see (command_of r.line) m b × IsPartlyOnItsWay old new waiting (text ++ front))
