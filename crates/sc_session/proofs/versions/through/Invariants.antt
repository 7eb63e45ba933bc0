use Rattle.std.proofs.Common.{◌≡◌, drop}
use Rattle.sc_session.specs.Changing as spec
use Rattle.sc_session.proofs.versions.through.Given as goal

abbrev pub invariant-loop-new : goal.invariant-loop-new
invariant-loop-new l = spec.through l.old (drop l.new-index l.later) l.run ≡ spec.through l.first l.later l.fn.run
