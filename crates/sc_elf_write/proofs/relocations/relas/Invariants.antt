use Rattle.std.proofs.Common.{◌≡◌, drop}
use Rattle.sc_object.specs.Parts.{relas, all_relas}
use Rattle.sc_elf_write.proofs.relocations.relas.Given as goal

abbrev pub invariant-loop-n : goal.invariant-loop-n
invariant-loop-n l = relas l.rest l.all l.n (drop l.n l.o.sections) ≡ all_relas l.o
