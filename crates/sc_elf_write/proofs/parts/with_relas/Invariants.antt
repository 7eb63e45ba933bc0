use Rattle.std.proofs.Common.{◌≡◌, ◌++◌, take, map}
use Rattle.sc_object.specs.Parts.{rela_part}
use Rattle.sc_elf_write.proofs.parts.with_relas.Given as goal

abbrev pub invariant-loop-rela : goal.invariant-loop-rela
invariant-loop-rela l = l.all ≡ l.initial.all ++ map (rela_part l.symbols) (take l.rela-index l.relas)
