use Rattle.std.proofs.Common.{◌≡◌, ◌+◌, take}
use Rattle.sc_interp_world.specs.Putting.{PutsAll}
use Rattle.sc_services.proofs.store.put_cells.Given as goal

abbrev pub invariant-loop-cell : goal.invariant-loop-cell
invariant-loop-cell l = PutsAll l.to (take l.cell-index l.cells) l.fn.world l.world × (l.at ≡ l.to + l.cell-index)
