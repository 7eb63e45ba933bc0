use Rattle.std.proofs.Common.{◌≡◌, drop}
use Rattle.sc_session_show.specs.Visible as spec
use Rattle.sc_session_show.proofs.names.declared_static.Given as goal

abbrev pub invariant-loop-d : goal.invariant-loop-d
invariant-loop-d l = spec.declared_static l.name (drop l.d-index l.declared) ≡ spec.declared_static l.name l.declared
