use Rattle.std.proofs.Common.{◌≡◌, false, length}
use Rattle.sc_lex.specs.Tokens.{cut_from, prepend}
use Rattle.sc_lex.specs.Unclosed.{Holds}
use Rattle.sc_lex.proofs.lexing.cut_marks.Given as goal

-- what was cut, and what is left gives, is the whole
abbrev pub invariant-pieces : goal.invariant-pieces
invariant-pieces l = record {
  whole : prepend l.tokens (cut_from l.file 0 l.space l.left) ≡ cut_from l.file 0 false l.fn.marks;
  unclosed : Holds l.unclosed l.left;
}

abbrev pub decreases-pieces : goal.decreases-pieces
decreases-pieces l = length l.left
