use Rattle.std.proofs.Common.{◌≡◌, ◌≤◌, ◌^◌}
use Rattle.sc_meaning.specs.Functions as spec
use Rattle.sc_meaning.specs.Outcomes.{and_then}
use Rattle.sc_lib.specs.Sums.{cut}
use Rattle.sc_lib.proofs.numbers.digits_from.Given as goal

abbrev pub invariant-loop-left : goal.invariant-loop-left
invariant-loop-left l = (l.total ≤ 2 ^ 32) × (and_then (spec.digits_from l.left l.p l.i l.b l.total l.world) cut ≡ and_then (spec.digits_from l.n l.p l.at l.first 0 l.fn.world) cut)

abbrev pub decreases-loop-left : goal.decreases-loop-left
decreases-loop-left l = l.left
