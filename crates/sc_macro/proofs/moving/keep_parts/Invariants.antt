use Rattle.std.proofs.Common.{◌≡◌, length}
use Rattle.sc_macro.specs.Moving.{kept_by_all}
use Rattle.sc_macro.proofs.moving.keep_parts.Given as goal

abbrev pub invariant-keeping : goal.invariant-keeping
invariant-keeping l = kept_by_all l.flags l.left ≡ kept_by_all l.fn.flags l.fn.parts

abbrev pub decreases-keeping : goal.decreases-keeping
decreases-keeping l = length l.left
