use Rattle.std.proofs.Common.{◌≡◌, drop}
use Rattle.sc_session_show.specs.Visible as spec
use Rattle.sc_session_show.proofs.names.local_in.Given as goal

abbrev pub invariant-loop-a : goal.invariant-loop-a
invariant-loop-a l = spec.local_in l.name (drop l.a-index l.autos) l.rest ≡ spec.local_in l.name l.autos l.ids
