use Rattle.std.proofs.Common.{◌≡◌, ◌++◌, drop}
use Rattle.sc_session.specs.Changing as spec
use Rattle.sc_session.proofs.versions.compiled_held.Given as goal

abbrev pub invariant-loop-before : goal.invariant-loop-before
invariant-loop-before l = l.objects ++ spec.compiled_held (drop l.before-index l.past) l.modules ≡ spec.compiled_held l.past l.modules
