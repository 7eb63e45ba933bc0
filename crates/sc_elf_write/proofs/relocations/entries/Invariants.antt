use Rattle.std.proofs.Common.{◌≡◌, take}
use Rattle.sc_object.specs.Parts.{entries}
use Rattle.sc_elf_write.proofs.relocations.entries.Given as goal

abbrev pub invariant-loop-reloc : goal.invariant-loop-reloc
invariant-loop-reloc l = l.bytes.items ≡ entries (take l.reloc-index l.relocs)
