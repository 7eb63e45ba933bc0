use Rattle.std.proofs.Common.{◌≡◌, drop}
use Rattle.sc_session_conflicts.specs.Clashes as spec
use Rattle.sc_session.specs.Modules.{texts}
use Rattle.sc_session.proofs.present.is_present.Given as goal

abbrev pub invariant-loop-p : goal.invariant-loop-p
invariant-loop-p l = spec.is_present l.name (texts (drop l.p-index l.modules)) ≡ spec.is_present l.name (texts l.modules)
