use Rattle.std.proofs.Common.{◌≡◌}
use Rattle.sc_meaning.specs.Functions as spec
use Rattle.sc_lib_bytes.proofs.searches.first_found.Given as goal

abbrev pub invariant-loop-left : goal.invariant-loop-left
invariant-loop-left l = spec.first_found l.left l.p l.c l.i l.world ≡ spec.first_found l.n l.p l.c 0 l.fn.world

abbrev pub decreases-loop-left : goal.decreases-loop-left
decreases-loop-left l = l.left
