use Rattle.std.proofs.Common.{◌≡◌, ◌≤◌, length, take}
use Rattle.sc_meaning.specs.Statements as spec
use Rattle.sc_interp_parts.proofs.births.all_dead.Given as goal

abbrev pub invariant-loop-k : goal.invariant-loop-k
invariant-loop-k l = (l.k ≤ length l.ids) × (spec.all_dead (take l.k l.ids) l.world ≡ spec.all_dead l.ids l.fn.world)

abbrev pub decreases-loop-k : goal.decreases-loop-k
decreases-loop-k l = l.k
