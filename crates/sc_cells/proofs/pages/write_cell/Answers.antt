use Rattle.std.proofs.Common.{◌≡◌, ◌/◌, ◌%◌, ◌<◌, length, set, subst, arith}
use Rattle.std.specs.Prelude.{MatchResult}
use Rattle.sc_cells.specs.Pages.{Sheet, untaken}
use Rattle.sc_cells.proofs.Paged.{any-default, inside_taken, one_written}
use Rattle.sc_cells.proofs.pages.write_cell.Goals as goal

pub returns-clause-cells : goal.returns-clause-cells
returns-clause-cells c =
    let old = c.args.pages.now.items in
    let now = c.take_page.new.pages.items in
    let p = c.args.at / 8192 in
    let new = c.write_in.new.page in
    let asked = c.requires.inside in
    let inside : p < length old = omega arith in
    let here = any-default now p c.index_mut.result.now untaken c.index_mut.ensures.value (inside_taken old now p p inside c.in_ok-take_page.ensures inside) in
    (one_written old now c.args.at c.args.c new c.write_in.result c.requires.inside (c.requires.whole p) c.in_ok-take_page.ensures
    (subst (λ (page : Sheet). MatchResult c.write_in.result (λ _. new.cells ≡ set page.cells (c.args.at % 8192) c.args.c) (λ _. new ≡ page)) here c.write_in.ensures)).1
