use Rattle.std.proofs.Common.{arith}
use Rattle.sc_cells.proofs.Words.{cell_put, seen-length}
use Rattle.sc_cells.proofs.page.Page.write.Goals as goal

pub index-requires : goal.index-requires
index-requires c =
    let n = seen-length c.self.inside.quads.items c.self.inside.loose.items c.args.self.now c.self.view_is in
    let less = c.requires in
    omega arith

pub index_mut-requires : goal.index_mut-requires
index_mut-requires c =
    let n = seen-length c.self.inside.quads.items c.self.inside.loose.items c.args.self.now c.self.view_is in
    let less = c.requires in
    omega arith

pub returns-in-Some : goal.returns-in-Some
returns-in-Some c = record { cells = cell_put c.self.inside.quads.items c.self.inside.loose.items c.args.self.now c.args.j c.index.result.now c.in-Some.quad c.args.c c.self.view_is c.requires c.index.ensures c.in-Some.ensures }
