use Rattle.std.proofs.Common.{◌≡◌, ◌+◌, [], drop}
use Rattle.sc_session_conflicts.specs.Births as spec
use Rattle.sc_session_conflicts.proofs.births.room_through.Given as goal

abbrev pub invariant-loop-new : goal.invariant-loop-new
invariant-loop-new l = l.total + spec.room_through l.ever l.old (drop l.new-index l.versions) l.last ≡ spec.room_through [] [] l.versions l.last
