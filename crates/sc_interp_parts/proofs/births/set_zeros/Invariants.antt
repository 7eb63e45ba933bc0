use Rattle.std.proofs.Common.{◌≡◌, replicate}
use Rattle.sc_meaning.specs.Statements as spec
use Rattle.sc_interp_parts.proofs.births.set_zeros.Given as goal

abbrev pub invariant-loop-left : goal.invariant-loop-left
invariant-loop-left l = spec.set_bytes l.id l.next (replicate l.left 0) l.world ≡ spec.set_bytes l.id l.at (replicate l.n 0) l.fn.world

abbrev pub decreases-loop-left : goal.decreases-loop-left
decreases-loop-left l = l.left
