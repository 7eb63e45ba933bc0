use Rattle.std.proofs.Common.{◌≡◌, drop}
use Rattle.sc_meaning.specs.Changes as spec
use Rattle.sc_interp_changes.proofs.follow.deaths.Given as goal

abbrev pub invariant-loop-id : goal.invariant-loop-id
invariant-loop-id l = spec.deaths l.old l.new (drop l.id-index l.ids) l.world ≡ spec.deaths l.old l.new l.ids l.fn.world
