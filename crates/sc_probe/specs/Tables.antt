-- Inside: plumbing, a representation, an invariant or a promise beside the claim (docs/TRUST.md).
-- As what the probes that may lose a note are seen.
use Rattle.std.specs.Prelude.{ℕ, List}
use Rattle.sc_base.specs.declared.note.Note.{Note}
use Rattle.sc_probe.specs.declared.coverage.Line.{Line}

-- the lines that were reached, each with its number, and the count of faults
pub record Table : Type 0 where
  pub lines : List (Line × ℕ)
  pub faults : ℕ

-- the notes kept, how many there may be, and the count of faults
pub record Kept : Type 0 where
  pub notes : List Note
  pub limit : ℕ
  pub faults : ℕ
