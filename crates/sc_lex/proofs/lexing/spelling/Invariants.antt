use Rattle.std.proofs.Common.{◌≡◌, take}
use Rattle.sc_lex.specs.Pieces.{bytes_of}
use Rattle.sc_lex.proofs.lexing.spelling.Given as goal

abbrev pub invariant-loop-mark : goal.invariant-loop-mark
invariant-loop-mark l = l.text.items ≡ bytes_of (take l.mark-index l.marks)
