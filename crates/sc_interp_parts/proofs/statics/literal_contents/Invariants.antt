use Rattle.std.proofs.Common.{◌≡◌, take, map}
use Rattle.sc_meaning.specs.Values as value
use Rattle.sc_interp_parts.proofs.statics.literal_contents.Given as goal

abbrev pub invariant-loop-b : goal.invariant-loop-b
invariant-loop-b l = l.cells ≡ map value.Byte (take l.b-index l.bytes)
