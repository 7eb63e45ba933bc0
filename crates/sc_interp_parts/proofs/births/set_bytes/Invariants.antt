use Rattle.std.proofs.Common.{◌≡◌, drop}
use Rattle.sc_meaning.specs.Statements as spec
use Rattle.sc_interp_parts.proofs.births.set_bytes.Given as goal

abbrev pub invariant-loop-byte : goal.invariant-loop-byte
invariant-loop-byte l = spec.set_bytes l.id l.next (drop l.byte-index l.bytes) l.world ≡ spec.set_bytes l.id l.at l.bytes l.fn.world
