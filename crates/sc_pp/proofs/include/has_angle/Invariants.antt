use Rattle.std.proofs.Common.{◌≡◌, length}
use Rattle.sc_pp.specs.Directives.{has_angle}
use Rattle.sc_pp.proofs.include.has_angle.Given as goal

abbrev pub invariant-bytes : goal.invariant-bytes
invariant-bytes l = has_angle l.left ≡ has_angle l.fn.text

abbrev pub decreases-bytes : goal.decreases-bytes
decreases-bytes l = length l.left
