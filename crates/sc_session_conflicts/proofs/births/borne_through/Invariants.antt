use Rattle.std.proofs.Common.{◌≡◌, ◌++◌, drop}
use Rattle.sc_session_conflicts.specs.Births as spec
use Rattle.sc_session_conflicts.proofs.births.borne_through.Given as goal

abbrev pub invariant-loop-new : goal.invariant-loop-new
invariant-loop-new l = l.ids ++ spec.borne_through l.old (drop l.new-index l.later) ≡ spec.borne_through l.first l.later
