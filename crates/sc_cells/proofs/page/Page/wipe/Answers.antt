use Rattle.std.proofs.Common.{◌∙◌, ◌/◌, ap, length, arith}
use Rattle.std.proofs.lemmas.List.{length-set}
use Rattle.sc_base.specs.declared.memory.Cell.TheVariants.{Unwritten}
use Rattle.sc_cells.proofs.Words.{cell_wiped_so, fits_still, seen-length}
use Rattle.sc_cells.proofs.page.Page.wipe.Goals as goal

pub index-requires : goal.index-requires
index-requires c =
    let n = seen-length c.self.inside.quads.items c.self.inside.loose.items c.args.self.now c.self.view_is in
    let less = c.requires in
    omega arith

pub index_mut-requires : goal.index_mut-requires
index_mut-requires c =
    let n = seen-length c.self.inside.quads.items c.self.inside.loose.items c.args.self.now c.self.view_is in
    let less = c.requires in
    omega arith

pub returns : goal.returns
returns c = cell_wiped_so c.self.inside.quads.items c.self.inside.loose.items c.wipe_loose.new.loose.items c.args.self.now c.args.j c.index.result.now c.wiped.result c.self.view_is c.requires c.index.ensures c.wiped.ensures c.wipe_loose.ensures

pub invariant_of-self : goal.invariant_of-self
invariant_of-self c = fits_still c.self.inside.quads.items c.self.inside.loose.items (c.args.j / 4) c.wiped.result c.wipe_loose.new.loose.items c.self.invariant (ap length c.wipe_loose.ensures ∙ length-set c.self.inside.loose.items c.args.j Unwritten)
