use Rattle.std.proofs.Common.{◌≡◌, [], drop}
use Rattle.sc_elf_read.specs.Tables.{sections_in}
use Rattle.sc_elf_read.proofs.tables.sections_in.Given as goal

abbrev pub invariant-loop-piece : goal.invariant-loop-piece
invariant-loop-piece l = sections_in l.all (drop l.piece-index l.pieces) l.rest ≡ sections_in [] l.pieces l.names
