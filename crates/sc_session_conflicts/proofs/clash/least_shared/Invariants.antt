use Rattle.std.proofs.Common.{◌≡◌, drop}
use Rattle.sc_session_conflicts.specs.Clashes as spec
use Rattle.sc_session_conflicts.specs.Names as names
use Rattle.sc_session_conflicts.proofs.clash.least_shared.Given as goal

abbrev pub invariant-loop-d : goal.invariant-loop-d
invariant-loop-d l = l.external.keys ≡ names.external_names l.other.declared → spec.least_with l.test l.core l.other (drop l.d-index l.d-items) l.least ≡ spec.least_with l.test l.core l.other l.d-items l.fn.found
