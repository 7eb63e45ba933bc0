use Rattle.std.proofs.Common.{◌≡◌, take}
use Rattle.std.specs.Prelude.{fold}
use Rattle.sc_object.specs.Spelling.{with_part, nothing_laid}
use Rattle.sc_elf_write.proofs.layout.laid_of.Given as goal

abbrev pub invariant-loop-part : goal.invariant-loop-part
invariant-loop-part l = l.laid ≡ fold with_part nothing_laid (take l.part-index l.parts)
