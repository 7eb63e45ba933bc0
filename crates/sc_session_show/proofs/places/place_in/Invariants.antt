use Rattle.std.proofs.Common.{◌≡◌, drop}
use Rattle.std.specs.Prelude.{None}
use Rattle.sc_session_show.specs.Places as spec
use Rattle.sc_session_show.proofs.places.place_in.Given as goal

abbrev pub invariant-loop-b : goal.invariant-loop-b
invariant-loop-b l = spec.place_in l.s l.g l.declaring l.name l.found (drop l.b-index l.blocks) ≡ spec.place_in l.s l.g l.declaring l.name None l.blocks
