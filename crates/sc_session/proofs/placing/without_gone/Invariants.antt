use Rattle.std.proofs.Common.{◌≡◌, drop}
use Rattle.sc_session.specs.Placing as spec
use Rattle.sc_session.proofs.placing.without_gone.Given as goal

abbrev pub invariant-loop-p : goal.invariant-loop-p
invariant-loop-p l = spec.without_gone (drop l.p-index l.old) l.new l.placed ≡ spec.without_gone l.old l.new l.fn.placed
