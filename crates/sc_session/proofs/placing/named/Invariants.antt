use Rattle.std.proofs.Common.{◌≡◌, drop}
use Rattle.sc_session.specs.Placing as spec
use Rattle.sc_session.proofs.placing.named.Given as goal

abbrev pub invariant-loop-p : goal.invariant-loop-p
invariant-loop-p l = spec.named l.name (drop l.p-index l.modules) ≡ spec.named l.name l.modules
