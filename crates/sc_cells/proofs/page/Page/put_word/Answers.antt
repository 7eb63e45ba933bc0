use Rattle.std.proofs.Common.{◌/◌, refl, arith}
use Rattle.sc_cells.proofs.Words.{fits_still, seen-length, word_put}
use Rattle.sc_cells.specs.declared.page.Quad.TheVariants.{Whole}
use Rattle.sc_cells.proofs.page.Page.put_word.Goals as goal

pub index_mut-requires : goal.index_mut-requires
index_mut-requires c =
    let n = seen-length c.self.inside.quads.items c.self.inside.loose.items c.args.self.now c.self.view_is in
    let less = c.requires.inside in
    omega arith

pub returns : goal.returns
returns c = word_put c.self.inside.quads.items c.self.inside.loose.items c.args.self.now c.args.j c.args.w c.self.view_is c.requires.aligned c.requires.inside

pub invariant_of-self : goal.invariant_of-self
invariant_of-self c = fits_still c.self.inside.quads.items c.self.inside.loose.items (c.args.j / 4) (Whole c.args.w) c.self.inside.loose.items c.self.invariant refl
