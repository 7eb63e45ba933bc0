use Rattle.std.proofs.Common.{◌≡◌, take}
use Rattle.sc_elf_read.specs.Tables.{relocs_in}
use Rattle.sc_elf_read.proofs.tables.relocs_in.Given as goal

abbrev pub invariant-loop-piece : goal.invariant-loop-piece
invariant-loop-piece l = l.all ≡ relocs_in (take l.piece-index l.pieces)
