use Rattle.std.proofs.Common.{◌≡◌, ◌+◌, drop}
use Rattle.sc_session_conflicts.specs.Births as spec
use Rattle.sc_session_conflicts.proofs.births.ids_room.Given as goal

abbrev pub invariant-loop-id : goal.invariant-loop-id
invariant-loop-id l = l.total + spec.ids_room l.texts (drop l.id-index l.ids) ≡ spec.ids_room l.texts l.ids
