use Rattle.std.proofs.Common.{◌≡◌, replicate}
use Rattle.sc_meaning.specs.Values as value
use Rattle.sc_lib_bytes.proofs.heap.bytes_of.Given as goal

abbrev pub invariant-loop : goal.invariant-loop
invariant-loop l = l.cells ≡ replicate l.counter (value.Byte l.byte)
