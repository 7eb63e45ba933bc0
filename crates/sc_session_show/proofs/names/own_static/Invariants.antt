use Rattle.std.proofs.Common.{◌≡◌, drop}
use Rattle.sc_session_show.specs.Visible as spec
use Rattle.sc_session_show.proofs.names.own_static.Given as goal

abbrev pub invariant-loop-o : goal.invariant-loop-o
invariant-loop-o l = spec.own_static l.own (drop l.o-index l.objects) ≡ spec.own_static l.own l.objects
