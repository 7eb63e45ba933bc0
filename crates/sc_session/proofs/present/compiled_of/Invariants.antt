use Rattle.std.proofs.Common.{◌≡◌, ◌++◌, drop}
use Rattle.sc_session.specs.Modules as spec
use Rattle.sc_session.proofs.present.compiled_of.Given as goal

abbrev pub invariant-loop-p : goal.invariant-loop-p
invariant-loop-p l = l.compiled ++ spec.compiled (drop l.p-index l.modules) ≡ spec.compiled l.modules
