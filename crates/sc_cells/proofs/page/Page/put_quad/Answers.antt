use Rattle.std.proofs.Common.{refl, arith}
use Rattle.sc_cells.proofs.Words.{fits_still, quad_put, seen-length}
use Rattle.sc_cells.proofs.page.Page.put_quad.Goals as goal

pub index_mut-requires : goal.index_mut-requires
index_mut-requires c =
    let n = seen-length c.self.inside.quads.items c.self.inside.loose.items c.args.self.now c.self.view_is in
    let less = c.requires in
    omega arith

pub returns : goal.returns
returns c = λ four count stands. quad_put c.self.inside.quads.items c.self.inside.loose.items c.args.self.now c.args.q c.args.quad four c.self.view_is c.requires count stands

pub invariant_of-self : goal.invariant_of-self
invariant_of-self c = fits_still c.self.inside.quads.items c.self.inside.loose.items c.args.q c.args.quad c.self.inside.loose.items c.self.invariant refl
