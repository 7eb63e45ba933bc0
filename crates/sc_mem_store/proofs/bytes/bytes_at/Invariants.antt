use Rattle.std.proofs.Common.{◌≡◌, length}
use Rattle.sc_mem_store.specs.Holding.{HasBytes}
use Rattle.sc_mem_store.proofs.bytes.bytes_at.Given as goal

abbrev pub invariant-loop-i : goal.invariant-loop-i
invariant-loop-i l = (length l.cells ≡ l.i) × HasBytes l.memory.flat l.functions l.base l.cells
