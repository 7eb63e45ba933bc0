use Rattle.std.proofs.Common.{◌≡◌, [], drop}
use Rattle.sc_meaning.specs.Library as spec
use Rattle.sc_lib_bytes.proofs.bytes.shown.Given as goal

abbrev pub invariant-loop-b : goal.invariant-loop-b
invariant-loop-b l = spec.shown [] (drop l.b-index l.bytes) l.world ≡ spec.shown [] l.bytes l.fn.world
