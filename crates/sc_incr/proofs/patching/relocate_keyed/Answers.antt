use Rattle.std.proofs.Common.{slice_get}
use Rattle.sc_isa_image.specs.Lookups.{value_of}
use Rattle.sc_incr.proofs.Relocating.{base-of-values}
use Rattle.sc_incr.proofs.patching.relocate_keyed.Goals as goal

pub returns : goal.returns
returns c = λ value h.
    c.relocate_one.ensures value
    (base-of-values value (value_of c.args.image.now) c.args.entry.now (slice_get c.args.entry.now.object.symbols c.args.reloc.now.symbol) c.base_of-base.result h c.base_of-base.ensures)
