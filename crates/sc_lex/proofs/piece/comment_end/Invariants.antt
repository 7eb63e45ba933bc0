use Rattle.std.proofs.Common.{◌≡◌, ◌+◌, length, option_map}
use Rattle.sc_lex.specs.Pieces.{bytes_of, comment_end}
use Rattle.sc_lex.proofs.piece.comment_end.Given as goal

abbrev pub invariant-bytes : goal.invariant-bytes
invariant-bytes l = record {
  whole : comment_end (bytes_of l.fn.marks) ≡ option_map (λ n. l.passed + n) (comment_end (bytes_of l.left));
  passed : l.passed + length l.left ≡ length l.fn.marks;
}

abbrev pub decreases-bytes : goal.decreases-bytes
decreases-bytes l = length l.left
