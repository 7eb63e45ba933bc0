-- Yardstick: to be compared with what it restates (docs/TRUST.md).
-- The text that tells how many notes were kept.
use Rattle.std.specs.Prelude.{ℕ, ◌++◌, List, length, codes, decimal}
use Rattle.sc_base.specs.declared.note.Note.{Note}

abbrev pub trace_text : List Note → List ℕ
trace_text notes = codes "notes " ++ decimal (length notes) ++ codes "\n"
