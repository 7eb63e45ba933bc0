use Rattle.std.proofs.Common.{◌≡◌}
use Rattle.sc_meaning.specs.Functions as spec
use Rattle.sc_lib.proofs.numbers.after_space.Given as goal

abbrev pub invariant-loop-left : goal.invariant-loop-left
invariant-loop-left l = spec.after_space l.left l.p l.i l.world ≡ spec.after_space l.n l.p 0 l.fn.world

abbrev pub decreases-loop-left : goal.decreases-loop-left
decreases-loop-left l = l.left
