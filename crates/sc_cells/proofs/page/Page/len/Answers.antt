use Rattle.std.proofs.Common.{arith}
use Rattle.sc_cells.proofs.Words.{seen-length}
use Rattle.sc_cells.proofs.page.Page.len.Goals as goal

pub returns : goal.returns
returns c =
    let n = seen-length c.self.inside.quads.items c.self.inside.loose.items c.args.self.now c.self.view_is in
    let count = c.len.ensures in
    omega arith
