use Rattle.std.proofs.Common.{◌≡◌}
use Rattle.sc_meaning.specs.Library as spec
use Rattle.sc_lib_bytes.proofs.bytes.writable.Given as goal

abbrev pub invariant-loop-left : goal.invariant-loop-left
invariant-loop-left l = spec.writable l.left l.p l.i l.world ≡ spec.writable l.n l.p l.at l.world

abbrev pub decreases-loop-left : goal.decreases-loop-left
decreases-loop-left l = l.left
