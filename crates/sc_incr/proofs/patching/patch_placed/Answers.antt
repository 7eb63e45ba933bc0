use Rattle.std.proofs.Common.{ap}
use Rattle.sc_link.specs.Entries.{is_object}
use Rattle.sc_incr.proofs.Relocating.{placed-object, placed-source}
use Rattle.sc_incr.proofs.patching.patch_placed.Goals as goal

pub returns-in-Source : goal.returns-in-Source
returns-in-Source c = λ value h. placed-source value c.args.entry.now c.args.positions.now c.args.image.now (ap is_object c.in-Source.is)

pub returns-in-Object : goal.returns-in-Object
returns-in-Object c = λ value h. placed-object value c.args.entry.now c.args.positions.now c.args.image.now c.patch_positions.new.image (ap is_object c.in-Object.is) (c.patch_positions.ensures value h)
