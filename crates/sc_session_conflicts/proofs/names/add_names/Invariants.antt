use Rattle.std.proofs.Common.{◌≡◌, drop}
use Rattle.sc_session_conflicts.specs.Names as spec
use Rattle.sc_session_conflicts.proofs.names.add_names.Given as goal

abbrev pub invariant-loop-d : goal.invariant-loop-d
invariant-loop-d l = spec.with_names l.names.keys (drop l.d-index l.declared) ≡ spec.with_names l.initial.names.keys l.declared
