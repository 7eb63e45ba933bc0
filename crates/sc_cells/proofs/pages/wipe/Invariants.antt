use Rattle.std.proofs.Common.{◌≤◌, ◌+◌, ◌-◌, replicate}
use Rattle.sc_base.specs.declared.memory.Cell.TheVariants.{Unwritten}
use Rattle.sc_cells.specs.Pages.{Rewritten}
use Rattle.sc_cells.proofs.pages.wipe.Given as goal

abbrev pub invariant-wiping : goal.invariant-wiping
invariant-wiping l = (l.k ≤ l.n) × Rewritten l.initial.pages.items l.pages.items (l.at + l.n) l.at (λ all. replicate l.k Unwritten)

abbrev pub decreases-wiping : goal.decreases-wiping
decreases-wiping l = l.n - l.k
