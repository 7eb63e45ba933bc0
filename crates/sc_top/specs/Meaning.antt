-- Yardstick: to be compared with what it restates (docs/TRUST.md).
-- A session whose answers are those that the meaning of C gives its runs of interpreted modules, with the versions that their modules
-- went through. Of a run in which some module is or was in object form nothing is said here (Courses).
use Rattle.std.specs.Prelude.{◌≡◌, ◌⊎◌, ℕ, false, List, [], ◌∷◌, ◌++◌, Option, None}
use Rattle.sc_outside.specs.Stored.{FileMap}
use Rattle.sc_outside.specs.Streams.{AppendsSome}
use Rattle.sc_session.specs.Modules.{texts}
use Rattle.sc_session.specs.Transcript.{Moment, moment}
use Rattle.sc_session_laws.specs.Courses.{Course, StandsSo, Tells}
use Rattle.sc_words.specs.Commands.{command_of}
use Rattle.sc_top.specs.Transcript.{Answers}
use Rattle.sc_top.specs.Sessions.{EndedBetween, BrokenOff}
use Rattle.sc_top.specs.declared.status.Status.{Status}

-- A line's answer, which tells of the run what the meaning gives; the run stood where it stands before the line, and stands so behind it.
pub record Means (old : Moment) (run : Option Course) (line answered : List ℕ) (new : Moment) (after : Option Course) : Type 0 where
  pub answers : Answers old line answered new
  pub tells : Tells old run (command_of line) answers.front answers.said (texts new.session.modules) after
  pub stands : StandsSo new.session after

-- The answers to these lines, one after the other, in a session whose run stands so.
abbrev pub RunMeans : Moment → Option Course → List (List ℕ) → List ℕ → Moment → Type 0
RunMeans old run [] text new = (text ≡ []) × (new ≡ old)
RunMeans old run (line ∷ lines) text new = (mid : Moment) × (after : Option Course) × (first : List ℕ) × (rest : List ℕ)
    × (old.session.over ≡ false) × Means old run line first mid after × RunMeans mid after lines rest new × (text ≡ first ++ rest)

-- A session that ended with this status between two lines or within one (Sessions), and began without a run: its answers are so.
abbrev pub MeansBetween : Option (List ℕ) → Option (List ℕ) → Option (List ℕ) → Moment → Option FileMap × ℕ → Status → Type 0
MeansBetween commands old new first after status =
    (e : EndedBetween commands old new first after status) × RunMeans first None e.lines e.text (moment e.last after.0 after.1)

abbrev pub MeansWithin : Option (List ℕ) → Option (List ℕ) → Option (List ℕ) → Moment → Option FileMap × ℕ → Status → Type 0
MeansWithin commands old new first after status =
    (text : List ℕ) × (front : List ℕ) × (e : BrokenOff commands first after status text front) × RunMeans first None e.lines text e.last × AppendsSome old new (text ++ front)

pub record EndedAsMeant (commands old new : Option (List ℕ)) (first : Moment) (after : Option FileMap × ℕ) (status : Status) : Type 0 where
  pub way : MeansBetween commands old new first after status ⊎ MeansWithin commands old new first after status
