use Rattle.std.proofs.Common.{◌≡◌}
use Rattle.sc_meaning.specs.Values.{null}
use Rattle.sc_meaning.specs.Functions as spec
use Rattle.sc_lib_bytes.proofs.searches.last_found.Given as goal

abbrev pub invariant-loop-left : goal.invariant-loop-left
invariant-loop-left l = spec.last_found l.left l.p l.c l.i l.found l.world ≡ spec.last_found l.n l.p l.c 0 null l.fn.world

abbrev pub decreases-loop-left : goal.decreases-loop-left
decreases-loop-left l = l.left
