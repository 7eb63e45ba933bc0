use Rattle.std.proofs.Common.{take}
use Rattle.sc_incr.specs.Uses.{IsIndexOf}
use Rattle.sc_incr.proofs.uses.index_relocs.Given as goal

abbrev pub invariant-loop-at : goal.invariant-loop-at
invariant-loop-at l = IsIndexOf l.home l.object (take l.at l.relocs) l.uses
