use Rattle.std.proofs.Common.{◌≡◌, drop}
use Rattle.sc_meaning.specs.Library as spec
use Rattle.sc_lib_bytes.proofs.bytes.bytes_set.Given as goal

abbrev pub invariant-loop-b : goal.invariant-loop-b
invariant-loop-b l = spec.bytes_set l.p l.i (drop l.b-index l.bytes) l.world ≡ spec.bytes_set l.p l.at l.bytes l.fn.world
