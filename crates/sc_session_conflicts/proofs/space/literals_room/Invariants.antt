use Rattle.std.proofs.Common.{◌≡◌, ◌+◌, drop}
use Rattle.sc_session_conflicts.specs.Spaces as spec
use Rattle.sc_session_conflicts.proofs.space.literals_room.Given as goal

abbrev pub invariant-loop-l : goal.invariant-loop-l
invariant-loop-l l = l.total + spec.literals_room (drop l.l-index l.literals) ≡ spec.literals_room l.literals
