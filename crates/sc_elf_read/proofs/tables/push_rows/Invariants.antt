use Rattle.std.proofs.Common.{◌≡◌, ◌++◌, ◌-◌, ◌/◌, length}
use Rattle.sc_elf_read.specs.Tables.{rows, reloc_in}
use Rattle.sc_elf_read.proofs.tables.push_rows.Given as goal

abbrev pub invariant-loop-turn : goal.invariant-loop-turn
invariant-loop-turn l =
    l.all ++ rows (reloc_in l.section) 12 (length l.bytes / 12 - l.turn) l.rest ≡ l.initial.all ++ rows (reloc_in l.section) 12 (length l.bytes / 12) l.bytes
