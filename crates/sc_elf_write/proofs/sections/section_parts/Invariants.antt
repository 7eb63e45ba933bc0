use Rattle.std.proofs.Common.{◌≡◌, take, map}
use Rattle.sc_object.specs.Parts.{section_part}
use Rattle.sc_elf_write.proofs.sections.section_parts.Given as goal

abbrev pub invariant-loop-section : goal.invariant-loop-section
invariant-loop-section l = l.all ≡ map section_part (take l.section-index l.sections)
