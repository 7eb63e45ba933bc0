use Rattle.std.proofs.Common.{◌≡◌, length}
use Rattle.sc_mem_store.specs.Living.{HasCells}
use Rattle.sc_mem_store.proofs.bytes.cells_from.Given as goal

abbrev pub invariant-loop-i : goal.invariant-loop-i
invariant-loop-i l = (length l.cells ≡ l.i) × HasCells l.memory.flat l.base l.cells
