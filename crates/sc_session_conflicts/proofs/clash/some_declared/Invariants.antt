use Rattle.std.proofs.Common.{◌≡◌, drop}
use Rattle.sc_session_conflicts.specs.Clashes as spec
use Rattle.sc_session_conflicts.proofs.clash.some_declared.Given as goal

abbrev pub invariant-loop-e : goal.invariant-loop-e
invariant-loop-e l = spec.some_declared (spec.holds l.test l.a l.d l.b) (drop l.e-index l.e-items) ≡ spec.some_declared (spec.holds l.test l.a l.d l.b) l.e-items
