use Rattle.std.proofs.Common.{◌∙◌, ap}
use Rattle.sc_isa_image.specs.Lookups.{value_of}
use Rattle.sc_link.specs.Entries.{is_object}
use Rattle.sc_link.proofs.Fixes.{bases-same, relocates-else, relocates-if}
use Rattle.sc_link.proofs.relocating.relocate_entry.Goals as goal

pub returns-in-Source : goal.returns-in-Source
returns-in-Source c = λ value h. relocates-else value c.args.entry.now c.args.image.now (ap is_object c.in-Source.is)

pub returns-in_ok-bases-in-Object : goal.returns-in_ok-bases-in-Object
returns-in_ok-bases-in-Object c = λ value h.
    relocates-if value c.args.entry.now c.args.image.now c.relocate_all.new.image (ap is_object c.in-Object.is)
    (c.relocate_all.ensures value (c.as_slice.ensures.value ∙ (c.in_ok-bases-in-Object.ensures ∙ bases-same c.args.entry.now c.args.entry.now.object.symbols (value_of c.args.image.now) value h)))
