use Rattle.std.proofs.Common.{◌≡◌, drop}
use Rattle.sc_session.specs.Modules as spec
use Rattle.sc_session.proofs.present.object_named.Given as goal

abbrev pub invariant-loop-p : goal.invariant-loop-p
invariant-loop-p l = spec.object_named (drop l.p-index l.modules) l.name l.choice ≡ spec.object_named l.modules l.name l.choice
