use Rattle.std.proofs.Common.{◌≡◌, drop}
use Rattle.sc_object.specs.Reading.{by_sections}
use Rattle.sc_elf_read.proofs.spellable.by_sections.Given as goal

abbrev pub invariant-loop-reloc : goal.invariant-loop-reloc
invariant-loop-reloc l = by_sections l.least (drop l.reloc-index l.relocs) ≡ by_sections 0 l.relocs
