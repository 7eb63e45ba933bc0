use Rattle.std.proofs.Common.{length}
use Rattle.sc_interp_access.proofs.accesses.+number_of_cells.Given as goal

abbrev pub decreases-number_of_cells : goal.decreases-number_of_cells
decreases-number_of_cells l = length l.cells.now
