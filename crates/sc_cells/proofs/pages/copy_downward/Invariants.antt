use Rattle.std.proofs.Common.{◌+◌, ◌-◌}
use Rattle.sc_cells.specs.Pages.{Rewritten}
use Rattle.sc_cells.specs.Range.{range_of}
use Rattle.sc_cells.proofs.pages.copy_downward.Given as goal

abbrev pub invariant-copying : goal.invariant-copying
invariant-copying l = Rewritten l.initial.pages.items l.pages.items (l.to + l.n) (l.to + l.k) (λ all. range_of all (l.from + l.k) (l.n - l.k))
