use Rattle.std.proofs.Common.{◌≡◌, ◌+◌, drop}
use Rattle.sc_session_conflicts.specs.Spaces as spec
use Rattle.sc_session_conflicts.proofs.space.objects_room.Given as goal

abbrev pub invariant-loop-o : goal.invariant-loop-o
invariant-loop-o l = l.total + spec.objects_room l.structs (drop l.o-index l.objects) ≡ spec.objects_room l.structs l.objects
