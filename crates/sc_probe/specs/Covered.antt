-- Yardstick: to be compared with what it restates (docs/TRUST.md).
-- How often each line was reached, and the text that tells it.
use Rattle.std.specs.Prelude.{ℕ, ◌+◌, ◌==◌, ◌&&◌, ◌++◌, Bool, true, false, List, [], ◌∷◌, unwrap_or, codes, decimal, fold}
use Rattle.std.specs.Map.{lookup}
use Rattle.indexmap.specs.IndexMap.{insert_entry}
use Rattle.indexmap.specs.IndexSet.{insert_key}
use Rattle.sc_base.specs.declared.note.Note.{Note}
use Rattle.sc_base.specs.declared.note.Note.TheVariants.{At}
use Rattle.sc_probe.specs.declared.coverage.Line.{Line}
use Rattle.sc_probe.specs.Numbers.{within_64_bits}

abbrev pub line_eq : Line → Line → Bool
line_eq k l = k.fun == l.fun && k.line == l.line

-- the number of a line, 0 where it was not reached
abbrev pub number_at : List (Line × ℕ) → Line → ℕ
number_at lines line = unwrap_or (lookup (line_eq line) lines) 0

-- a line was reached once more; one that was not reached before stands last
abbrev pub reached : Line → List (Line × ℕ) → List (Line × ℕ)
reached line lines = insert_entry line_eq lines line (within_64_bits (number_at lines line + 1))

-- the lines with one note more
abbrev pub covered : Note → List (Line × ℕ) → List (Line × ℕ)
covered (At fun line) lines = reached (record { fun = fun; line = line }) lines
covered _ lines = lines

-- the lines of all these notes, behind some
abbrev pub covered_by : List (Line × ℕ) → List Note → List (Line × ℕ)
covered_by lines notes = fold (λ before n. covered n before) lines notes

-- a note says that a line was reached
abbrev pub tells_line : Line → Note → Bool
tells_line line (At fun number) = line_eq line (record { fun = fun; line = number })
tells_line line _ = false

-- the lines that some notes say were reached, each once, in the order in which they were first reached
abbrev pub with_line : List Line → Note → List Line
with_line lines (At fun number) = insert_key line_eq lines (record { fun = fun; line = number })
with_line lines _ = lines

abbrev pub lines_told : List Note → List Line
lines_told notes = fold with_line [] notes

-- a function's number, a line and how often it was reached
abbrev pub line_text : Line → ℕ → List ℕ
line_text line count = decimal line.fun ++ codes " " ++ decimal line.line ++ codes " " ++ decimal count ++ codes "\n"

abbrev pub coverage_text : List (Line × ℕ) → List ℕ
coverage_text [] = []
coverage_text (l ∷ lines) = line_text l.0 l.1 ++ coverage_text lines
