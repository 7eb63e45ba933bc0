use Rattle.std.proofs.Common.{◌≡◌, replicate}
use Rattle.sc_cells.specs.Pages.{untaken}
use Rattle.sc_cells.proofs.pages.blank_pages.Given as goal

abbrev pub invariant-making : goal.invariant-making
invariant-making l = l.pages.items ≡ replicate l.n untaken
