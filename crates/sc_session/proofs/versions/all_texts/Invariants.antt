use Rattle.std.proofs.Common.{◌≡◌, ◌++◌, drop}
use Rattle.sc_session.specs.Changing as spec
use Rattle.sc_session.proofs.versions.all_texts.Given as goal

abbrev pub invariant-loop-modules : goal.invariant-loop-modules
invariant-loop-modules l = l.all ++ spec.all_texts (drop l.modules-index l.past) ≡ spec.all_texts l.past
