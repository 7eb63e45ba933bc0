use Rattle.std.proofs.Common.{◌≡◌, ◌+◌, drop}
use Rattle.sc_session_conflicts.specs.Spaces as spec
use Rattle.sc_session_conflicts.proofs.space.statics_with.Given as goal

abbrev pub invariant-loop-t : goal.invariant-loop-t
invariant-loop-t l = l.total + spec.statics_with l.core (drop l.t-index l.texts) ≡ spec.statics_of l.core + spec.statics_with l.core l.texts
