-- Machine: the program once more; a theorem ties it to a yardstick (docs/TRUST.md).
-- The lines of a text.
use Rattle.std.specs.Prelude.{ℕ, List, []}
use Rattle.sc_lex.specs.Tokens.{cut}
use Rattle.sc_pp.specs.declared.line.Line.{Line}
use Rattle.sc_pp.specs.Lines.{lines_of, matching}

-- The lines of a text, with the number of its file. What the lexer refuses stands at its place in the text: behind the
-- directives and the text of the lines before, and where text is open, behind what was read of it.
unfoldable pub scanned : ℕ → List ℕ → List Line
scanned number text = matching 0 [] (lines_of (cut number text))
