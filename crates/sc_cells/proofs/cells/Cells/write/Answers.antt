use Rattle.std.proofs.Common.{◌≡◌, ◌∙◌, List, length, ap, subst, sym, arith}
use Rattle.std.specs.Prelude.{MatchResult}
use Rattle.sc_base.specs.declared.memory.Cell.{Cell}
use Rattle.sc_cells.specs.Pages.{cells_in}
use Rattle.sc_cells.proofs.Paged.{length_cells, one_range}
use Rattle.sc_cells.proofs.cells.Cells.write.Goals as goal

pub write_cell-requires-clause-inside : goal.write_cell-requires-clause-inside
write_cell-requires-clause-inside c =
    let pages = c.self.inside.pages.items in
    let size = c.self.inside.size in
    let l : length c.args.self.now ≡ size = ap length (sym c.self.view_is) ∙ length_cells pages size in
    let enough = c.self.invariant.enough in
    let asked = c.requires in
    omega arith

pub returns : goal.returns
returns c =
    let pages = c.self.inside.pages.items in
    let size = c.self.inside.size in
    let l : length c.args.self.now ≡ size = ap length (sym c.self.view_is) ∙ length_cells pages size in
    let n : length (cells_in size pages) ≡ size = length_cells pages size in
    let asked = c.requires in
    let new = c.write_cell.new.pages.items in
    rw (← c.self.view_is) (subst (λ (xs : List Cell). MatchResult c.write_cell.result (λ _. cells_in size new ≡ xs) (λ _. cells_in size new ≡ cells_in size pages)) (one_range (cells_in size pages) c.args.at c.args.c (omega arith)) (c.write_cell.ensures.cells size (omega arith)))

pub invariant_of-self : goal.invariant_of-self
invariant_of-self c = c.write_cell.ensures.paged c.self.inside.size c.self.invariant
