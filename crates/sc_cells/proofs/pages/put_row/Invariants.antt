use Rattle.std.proofs.Common.{◌+◌, length, take}
use Rattle.sc_cells.specs.Pages.{Rewritten}
use Rattle.sc_cells.proofs.pages.put_row.Given as goal

abbrev pub invariant-putting : goal.invariant-putting
invariant-putting l = Rewritten l.initial.pages.items l.pages.items (l.at + length l.row) l.at (λ all. take l.k l.row)
