use Rattle.std.proofs.Common.{◌/◌, arith}
use Rattle.sc_cells.specs.declared.page.Quad.TheVariants.{Mixed}
use Rattle.sc_cells.proofs.Paged.{any-default}
use Rattle.sc_cells.proofs.Words.{cell_found, cell_past}
use Rattle.sc_cells.proofs.page.Page.cell.Goals as goal

pub returns-then-j-len : goal.returns-then-j-len
returns-then-j-len c =
    let less = c.if-j-len.true in
    let count = c.len.ensures in
    cell_found c.self.inside.quads.items c.self.inside.loose.items c.args.self.now c.args.j c.index.result.now c.cell_in.result c.self.view_is (omega arith) (any-default c.self.inside.quads.items (c.args.j / 4) c.index.result.now Mixed c.index.ensures (omega arith)) (rw c.as_slice.ensures.value at c.cell_in.ensures)

pub returns-else-j-len : goal.returns-else-j-len
returns-else-j-len c =
    let more = c.if-j-len.false in
    let count = c.len.ensures in
    cell_past c.self.inside.quads.items c.self.inside.loose.items c.args.self.now c.args.j c.self.view_is (omega arith)
