use Rattle.std.proofs.Common.{◌≡◌, ◌+◌, drop}
use Rattle.sc_meaning.specs.Changes as spec
use Rattle.sc_interp_parts.proofs.statics.contents_size.Given as goal

abbrev pub invariant-loop-piece : goal.invariant-loop-piece
invariant-loop-piece l = l.size + spec.contents_size (drop l.piece-index l.pieces) ≡ spec.contents_size l.pieces
