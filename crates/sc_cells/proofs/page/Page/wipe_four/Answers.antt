use Rattle.std.proofs.Common.{◌/◌, refl, arith}
use Rattle.sc_cells.proofs.Words.{fits_still, four_wiped, seen-length}
use Rattle.sc_cells.proofs.page.Page.wipe_four.Goals as goal

pub index_mut-requires : goal.index_mut-requires
index_mut-requires c =
    let n = seen-length c.self.inside.quads.items c.self.inside.loose.items c.args.self.now c.self.view_is in
    let less = c.requires.inside in
    omega arith

pub returns : goal.returns
returns c = rw c.unwritten.ensures (four_wiped c.self.inside.quads.items c.self.inside.loose.items c.args.self.now c.args.j c.self.view_is c.requires.aligned c.requires.inside)

pub invariant_of-self : goal.invariant_of-self
invariant_of-self c = fits_still c.self.inside.quads.items c.self.inside.loose.items (c.args.j / 4) c.unwritten.result c.self.inside.loose.items c.self.invariant refl
