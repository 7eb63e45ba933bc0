use Rattle.std.proofs.Common.{◌≡◌, ◌++◌, drop, map}
use Rattle.sc_opt_fold.specs.Folded.{folded_piece}
use Rattle.sc_opt_fold.proofs.statements.folded_pieces.Given as goal

abbrev pub invariant-loop-p : goal.invariant-loop-p
invariant-loop-p l = l.all ++ map folded_piece (drop l.p-index l.ps) ≡ map folded_piece l.ps
