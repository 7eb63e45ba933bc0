use Rattle.std.proofs.Common.{◌≡◌, ◌++◌, drop}
use Rattle.sc_meaning.specs.Changes as spec
use Rattle.sc_interp_parts.proofs.statics.contents.Given as goal

abbrev pub invariant-loop-piece : goal.invariant-loop-piece
invariant-loop-piece l = (l.cells ++ spec.contents l.texts l.world (drop l.piece-index l.pieces)) ≡ spec.contents l.texts l.world l.pieces
