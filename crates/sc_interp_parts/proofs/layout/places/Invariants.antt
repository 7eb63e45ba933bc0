use Rattle.std.proofs.Common.{◌≡◌, [], drop}
use Rattle.sc_interp_parts.specs.Layouts as spec
use Rattle.sc_interp_parts.proofs.layout.places.Given as goal

abbrev pub invariant-loop-id : goal.invariant-loop-id
invariant-loop-id l = spec.placed l.texts (drop l.id-index l.ids) l.at l.places ≡ spec.placed l.texts l.ids 134217728 []
