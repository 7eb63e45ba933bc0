use Rattle.std.proofs.Common.{take}
use Rattle.sc_incr.specs.Leaving.{IsAbsent}
use Rattle.sc_incr.proofs.leaving.position.Given as goal

abbrev pub invariant-loop-at : goal.invariant-loop-at
invariant-loop-at l = IsAbsent l.name (take l.at l.entries)
