use Rattle.std.proofs.Common.{◌≡◌, ◌∙◌, length, ap, sym, arith}
use Rattle.sc_cells.proofs.Paged.{length_cells}
use Rattle.sc_cells.proofs.cells.Cells.clear.Goals as goal

pub wipe-requires-clause-inside : goal.wipe-requires-clause-inside
wipe-requires-clause-inside c =
    let pages = c.self.inside.pages.items in
    let size = c.self.inside.size in
    let l : length c.args.self.now ≡ size = ap length (sym c.self.view_is) ∙ length_cells pages size in
    let enough = c.self.invariant.enough in
    let asked = c.requires in
    omega arith

pub returns-clause-cells : goal.returns-clause-cells
returns-clause-cells c =
    let pages = c.self.inside.pages.items in
    let size = c.self.inside.size in
    let l : length c.args.self.now ≡ size = ap length (sym c.self.view_is) ∙ length_cells pages size in
    let asked = c.requires in
    rw (← c.self.view_is) (c.wipe.ensures.cells size (omega arith))

pub returns-clause-len : goal.returns-clause-len
returns-clause-len c =
    let pages = c.self.inside.pages.items in
    let size = c.self.inside.size in
    let l : length c.args.self.now ≡ size = ap length (sym c.self.view_is) ∙ length_cells pages size in
    length_cells c.wipe.new.pages.items size ∙ sym l
