use Rattle.std.proofs.Common.{pos}
use Rattle.sc_object.specs.Reading.{by_sections}
use Rattle.sc_elf_read.proofs.Loops.{sorted_more}
use Rattle.sc_elf_read.proofs.spellable.by_sections.Goals as goal

pub loop-reloc-preserved : goal.loop-reloc-preserved
loop-reloc-preserved c =
    sorted_more c.args.relocs.now c.loop-reloc.reloc-index c.loop-reloc.least (record { section = 0; at = 0; kind = 0; symbol = 0; addend = pos 0 })
    (by_sections 0 c.args.relocs.now) c.loop-reloc.invariant c.loop-reloc-test.true c.if-reloc-least.false
