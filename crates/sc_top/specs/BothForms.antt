-- Yardstick: to be compared with what it restates (docs/TRUST.md).
-- A session whose answers to the goes of runs of both forms are those that the meaning of C gives, from the premises on the run (CompilerIsRight): its
-- compiled texts are right, and its memory is kept. Without them, and from an undefined step on that compiled code takes, nothing is said (Shows).
use Rattle.std.specs.Prelude.{◌≡◌, ◌⊎◌, ℕ, false, List, [], ◌∷◌, ◌++◌, Option, None}
use Rattle.sc_outside.specs.Stored.{FileMap}
use Rattle.sc_outside.specs.Streams.{AppendsSome}
use Rattle.sc_session.specs.Transcript.{Moment, moment}
use Rattle.sc_session_means.specs.Sessions.{Placing, Tells}
use Rattle.sc_mixed_goes.specs.Shows.{Course}
use Rattle.sc_words.specs.Commands.{command_of}
use Rattle.sc_top.specs.Transcript.{Answers}
use Rattle.sc_top.specs.Sessions.{EndedBetween, BrokenOff}
use Rattle.sc_top.specs.declared.status.Status.{Status}

-- A line's answer, which tells of the run what the meaning gives, and where the run stands behind it.
pub record Shows (at : Placing) (old : Moment) (run : Option Course) (line answered : List ℕ) (new : Moment) (after : Option Course) : Type 0 where
  pub answers : Answers old line answered new
  pub tells : Tells at old run (command_of line) answers.said after

-- The answers to these lines, one after the other, in a session whose run is there or not.
abbrev pub RunShows : Placing → Moment → Option Course → List (List ℕ) → List ℕ → Moment → Type 0
RunShows at old run [] text new = (text ≡ []) × (new ≡ old)
RunShows at old run (line ∷ lines) text new = (mid : Moment) × (after : Option Course) × (first : List ℕ) × (rest : List ℕ)
    × (old.session.over ≡ false) × Shows at old run line first mid after × RunShows at mid after lines rest new × (text ≡ first ++ rest)

-- A session that ended with this status between two lines or within one (Sessions), and began without a run: its answers are so.
abbrev pub ShowsBetween : Placing → Option (List ℕ) → Option (List ℕ) → Option (List ℕ) → Moment → Option FileMap × ℕ → Status → Type 0
ShowsBetween at commands old new first after status =
    (e : EndedBetween commands old new first after status) × RunShows at first None e.lines e.text (moment e.last after.0 after.1)

abbrev pub ShowsWithin : Placing → Option (List ℕ) → Option (List ℕ) → Option (List ℕ) → Moment → Option FileMap × ℕ → Status → Type 0
ShowsWithin at commands old new first after status =
    (text : List ℕ) × (front : List ℕ) × (e : BrokenOff commands first after status text front) × RunShows at first None e.lines text e.last × AppendsSome old new (text ++ front)

pub record EndedAsShown (at : Placing) (commands old new : Option (List ℕ)) (first : Moment) (after : Option FileMap × ℕ) (status : Status) : Type 0 where
  pub way : ShowsBetween at commands old new first after status ⊎ ShowsWithin at commands old new first after status
