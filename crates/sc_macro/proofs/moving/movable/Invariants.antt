use Rattle.std.proofs.Common.{◌≡◌, length}
use Rattle.sc_macro.specs.Moving.{movable}
use Rattle.sc_macro.proofs.moving.movable.Given as goal

abbrev pub invariant-keeping : goal.invariant-keeping
invariant-keeping l = movable l.flags l.left ≡ movable l.fn.wanted l.fn.chains

abbrev pub decreases-keeping : goal.decreases-keeping
decreases-keeping l = length l.left
