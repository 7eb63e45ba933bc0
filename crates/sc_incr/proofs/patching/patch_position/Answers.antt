use Rattle.std.proofs.Common.{sym}
use Rattle.sc_incr.proofs.Relocating.{position-none, position-some}
use Rattle.sc_incr.proofs.patching.patch_position.Goals as goal

pub returns-in-Some : goal.returns-in-Some
returns-in-Some c = λ value h.
    let e = sym c.in-Some.ensures in
    position-some value c.args.entry.now c.args.at.now c.in-Some.reloc.now c.args.image.now c.relocate_one.new.image e (c.relocate_one.ensures value (h c.in-Some.reloc.now e))

pub returns-in-None : goal.returns-in-None
returns-in-None c = λ value h. position-none value c.args.entry.now c.args.at.now c.args.image.now (sym c.in-None.ensures)
