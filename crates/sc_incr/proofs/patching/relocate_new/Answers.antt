use Rattle.std.proofs.Common.{ap}
use Rattle.sc_link.specs.Entries.{is_object}
use Rattle.sc_incr.proofs.Relocating.{relocates-else, relocates-if}
use Rattle.sc_incr.proofs.patching.relocate_new.Goals as goal

pub returns-in-Source : goal.returns-in-Source
returns-in-Source c = λ value h. relocates-else value c.args.entry.now c.args.image.now (ap is_object c.in-Source.is)

pub returns-in-Object : goal.returns-in-Object
returns-in-Object c = λ value h. relocates-if value c.args.entry.now c.args.image.now c.relocate_all.new.image (ap is_object c.in-Object.is) (c.relocate_all.ensures value h)
