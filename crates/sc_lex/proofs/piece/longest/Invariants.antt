use Rattle.std.proofs.Common.{◌≡◌, take, false}
use Rattle.sc_lex.specs.Automaton.{run, is_dead}
use Rattle.sc_lex.specs.Pieces.{bytes_of, longest_within}
use Rattle.sc_lex.specs.declared.automaton.State.TheVariants.{Start}
use Rattle.sc_lex.proofs.piece.longest.Given as goal

abbrev pub invariant-loop-i : goal.invariant-loop-i
invariant-loop-i l = record {
  state : l.state ≡ run Start (take l.i (bytes_of l.marks));
  alive : is_dead l.state ≡ false;
  best : l.best ≡ longest_within l.i (bytes_of l.marks);
}
