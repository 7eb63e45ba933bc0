use Rattle.std.proofs.Common.{◌≡◌, ◌+◌, ◌/◌, ◌%◌, ◌<◌, length, set, subst, arith}
use Rattle.std.specs.Prelude.{MatchResult}
use Rattle.sc_cells.specs.Pages.{Sheet, untaken}
use Rattle.sc_cells.proofs.Paged.{any-default, inside_taken, two_written}
use Rattle.sc_cells.proofs.pages.write_two.Goals as goal

pub returns-clause-cells : goal.returns-clause-cells
returns-clause-cells c =
    let old = c.args.pages.now.items in
    let now = c.take_page.new.pages.items in
    let p = c.args.at / 8192 in
    let new = c.write_two_in.new.page in
    let asked = c.requires.inside in
    let inside : p < length old = omega arith in
    let here = any-default now p c.index_mut.result.now untaken c.index_mut.ensures.value (inside_taken old now p p inside c.in_ok-take_page.ensures inside) in
    (two_written old now c.args.at c.args.a c.args.b new c.write_two_in.result c.requires.inside c.requires.near (c.requires.whole p) c.in_ok-take_page.ensures
    (subst (λ (page : Sheet). MatchResult c.write_two_in.result (λ _. new.cells ≡ set (set page.cells (c.args.at % 8192) c.args.a) (c.args.at % 8192 + 1) c.args.b) (λ _. new ≡ page)) here c.write_two_in.ensures)).1
