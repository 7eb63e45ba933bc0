use Rattle.std.proofs.Common.{◌≡◌, drop}
use Rattle.sc_meaning.specs.Changes as spec
use Rattle.sc_interp_parts.proofs.statics.born_all.Given as goal

abbrev pub invariant-loop-id : goal.invariant-loop-id
invariant-loop-id l = spec.born_all l.texts (drop l.id-index l.ids) l.world ≡ spec.born_all l.texts l.ids l.fn.world
