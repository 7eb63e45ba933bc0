use Rattle.std.proofs.Common.{◌≡◌, drop}
use Rattle.sc_session.specs.Modules as spec
use Rattle.sc_session.proofs.present.kept_named.Given as goal

abbrev pub invariant-loop-p : goal.invariant-loop-p
invariant-loop-p l = spec.kept_named (drop l.p-index l.modules) l.name ≡ spec.kept_named l.modules l.name
