use Rattle.std.proofs.Common.{◌≡◌, ◌++◌, drop}
use Rattle.sc_meaning.specs.Versions as spec
use Rattle.sc_interp_changes.proofs.contents.spread_all.Given as goal

abbrev pub invariant-loop-piece : goal.invariant-loop-piece
invariant-loop-piece l = (l.all ++ spec.spread_all (drop l.piece-index l.pieces)) ≡ spec.spread_all l.pieces
