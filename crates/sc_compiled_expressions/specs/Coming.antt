-- Inside: plumbing, a representation, an invariant or a promise beside the claim (docs/TRUST.md).
-- What becomes of a stage of a run as further builds come.
use Rattle.std.specs.Prelude.{◌≡◌, ℕ, List, ◌∷◌}
use Rattle.sc_mixed_means.specs.Stages.{Build, Stage, next_stage}

-- a stage is that stage, or builds have come since
pub data Comes : Stage → Stage → Type 0 where
  comes_now : (s : Stage) → Comes s s
  comes_next : (s t : Stage) (count : ℕ) (b : Build) (bs : List Build) → Comes s t → t.later ≡ b ∷ bs → Comes s (next_stage t count b bs)
