use Rattle.std.proofs.Common.{◌≡◌, drop}
use Rattle.sc_session_show.specs.Places as spec
use Rattle.sc_session_show.proofs.places.name_in.Given as goal

abbrev pub invariant-loop-a : goal.invariant-loop-a
invariant-loop-a l = spec.name_in (drop l.a-index l.autos) l.rest l.object ≡ spec.name_in l.autos l.ids l.object
