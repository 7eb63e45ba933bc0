use Rattle.std.proofs.Common.{◌≡◌, drop}
use Rattle.sc_session.specs.Modules as spec
use Rattle.sc_session.proofs.present.scopes_numbered.Given as goal

abbrev pub invariant-loop-p : goal.invariant-loop-p
invariant-loop-p l = spec.scopes_numbered (drop l.p-index l.modules) l.n ≡ spec.scopes_numbered l.modules l.n
