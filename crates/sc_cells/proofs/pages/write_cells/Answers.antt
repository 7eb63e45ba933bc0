use Rattle.std.proofs.Common.{◌≡◌, List, length, subst, arith}
use Rattle.std.specs.Prelude.{MatchResult}
use Rattle.sc_base.specs.declared.memory.Cell.{Cell}
use Rattle.sc_cells.specs.Pages.{cells_in}
use Rattle.sc_cells.specs.Range.{with_range}
use Rattle.sc_cells.proofs.Paged.{one_row, two_row}
use Rattle.sc_cells.proofs.pages.write_cells.Goals as goal

pub returns-in-len1-clause-cells : goal.returns-in-len1-clause-cells
returns-in-len1-clause-cells c = λ size l.
    let old = c.args.pages.now.items in
    let new = c.write_cell.new.pages.items in
    let some = c.in-len1.len_at_least in
    let few = c.in-len1.len_below in
    let count : length c.args.row.now ≡ 1 = omega arith in
    subst (λ (row : List Cell). MatchResult c.write_cell.result (λ _. cells_in size new ≡ with_range (cells_in size old) c.args.at row) (λ _. cells_in size new ≡ cells_in size old)) (one_row c.args.row.now count) (c.write_cell.ensures.cells size (omega arith))

pub returns-then-at-lt3-clause-cells : goal.returns-then-at-lt3-clause-cells
returns-then-at-lt3-clause-cells c = λ size l.
    let old = c.args.pages.now.items in
    let new = c.write_two.new.pages.items in
    let some = c.in-len2.len_at_least in
    let few = c.in-len2.len_below in
    let count : length c.args.row.now ≡ 2 = omega arith in
    subst (λ (row : List Cell). MatchResult c.write_two.result (λ _. cells_in size new ≡ with_range (cells_in size old) c.args.at row) (λ _. cells_in size new ≡ cells_in size old)) (two_row c.args.row.now count) (c.write_two.ensures.cells size (omega arith))
