use Rattle.std.proofs.Common.{◌≡◌}
use Rattle.sc_meaning.specs.Functions as spec
use Rattle.sc_lib_bytes.proofs.searches.compared_upto.Given as goal

abbrev pub invariant-loop-left : goal.invariant-loop-left
invariant-loop-left l = spec.bytes_compared l.left l.to_zero l.p l.q l.i l.world ≡ spec.bytes_compared l.n l.to_zero l.p l.q 0 l.fn.world

abbrev pub decreases-loop-left : goal.decreases-loop-left
decreases-loop-left l = l.left
