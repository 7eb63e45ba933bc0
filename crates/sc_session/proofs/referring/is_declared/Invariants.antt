use Rattle.std.proofs.Common.{◌≡◌, drop}
use Rattle.sc_session.specs.Referring as spec
use Rattle.sc_session.proofs.referring.is_declared.Given as goal

abbrev pub invariant-loop-p : goal.invariant-loop-p
invariant-loop-p l = spec.is_declared l.name (drop l.p-index l.modules) ≡ spec.is_declared l.name l.modules
