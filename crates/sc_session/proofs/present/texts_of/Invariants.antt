use Rattle.std.proofs.Common.{◌≡◌, ◌++◌, drop}
use Rattle.sc_session.specs.Modules as spec
use Rattle.sc_session.proofs.present.texts_of.Given as goal

abbrev pub invariant-loop-p : goal.invariant-loop-p
invariant-loop-p l = l.texts ++ spec.texts (drop l.p-index l.modules) ≡ spec.texts l.modules
