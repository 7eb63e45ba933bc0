use Rattle.std.proofs.Common.{take}
use Rattle.sc_incr.specs.Leaving.{AreAllPresent}
use Rattle.sc_incr.proofs.forgetting.former.Given as goal

abbrev pub invariant-loop-at : goal.invariant-loop-at
invariant-loop-at l = AreAllPresent (take l.at l.entries)
