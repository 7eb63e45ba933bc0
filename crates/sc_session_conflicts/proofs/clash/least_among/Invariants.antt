use Rattle.std.proofs.Common.{◌≡◌, drop, None}
use Rattle.sc_session_conflicts.specs.Clashes as spec
use Rattle.sc_session_conflicts.proofs.clash.least_among.Given as goal

abbrev pub invariant-loop-t : goal.invariant-loop-t
invariant-loop-t l = spec.least_among l.test l.core (drop l.t-index l.texts) l.least ≡ spec.least_among l.test l.core l.texts None
