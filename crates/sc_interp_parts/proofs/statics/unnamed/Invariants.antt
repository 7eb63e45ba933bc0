use Rattle.std.proofs.Common.{◌≡◌, ◌++◌, drop}
use Rattle.sc_meaning.specs.Changes as spec
use Rattle.sc_interp_parts.proofs.statics.unnamed.Given as goal

abbrev pub invariant-loop-id : goal.invariant-loop-id
invariant-loop-id l = (l.rest ++ spec.unnamed l.world.names (drop l.id-index l.ids)) ≡ spec.unnamed l.world.names l.ids
