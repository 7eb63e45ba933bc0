use Rattle.std.proofs.Common.{◌≡◌, [], arith}
use Rattle.sc_cells.proofs.Words.{blank_fits, blank_page}
use Rattle.sc_cells.proofs.page.Page.blank.Goals as goal

pub returns : goal.returns
returns c =
    let none : c.new.result.items ≡ [] = search arith in
    blank_page c.in_ok-quads.quads.items c.new.result.items c.in_ok-quads.ensures none

pub invariant_of-result : goal.invariant_of-result
invariant_of-result c =
    let none : c.new.result.items ≡ [] = search arith in
    blank_fits c.in_ok-quads.quads.items c.new.result.items c.in_ok-quads.ensures none
