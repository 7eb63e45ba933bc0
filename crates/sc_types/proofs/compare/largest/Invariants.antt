use Rattle.std.proofs.Common.{◌<◌, length}
use Rattle.sc_types.proofs.compare.largest.Given as goal

abbrev pub invariant-loop-i : goal.invariant-loop-i
invariant-loop-i l = l.place < length l.members
