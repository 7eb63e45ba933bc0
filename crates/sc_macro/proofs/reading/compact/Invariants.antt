use Rattle.std.proofs.Common.{◌≡◌, ◌++◌, length}
use Rattle.sc_macro.proofs.reading.compact.Given as goal

abbrev pub invariant-moving : goal.invariant-moving
invariant-moving l = l.tokens ++ l.old ≡ l.fn.rest

abbrev pub decreases-moving : goal.decreases-moving
decreases-moving l = length l.old
