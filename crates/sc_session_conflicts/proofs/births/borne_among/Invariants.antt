use Rattle.std.proofs.Common.{◌≡◌, ◌++◌, drop}
use Rattle.sc_session_conflicts.specs.Births as spec
use Rattle.sc_session_conflicts.proofs.births.borne_among.Given as goal

abbrev pub invariant-loop-id : goal.invariant-loop-id
invariant-loop-id l = l.ids ++ spec.borne_among l.old l.new (drop l.id-index l.births) ≡ spec.borne_among l.old l.new l.births
