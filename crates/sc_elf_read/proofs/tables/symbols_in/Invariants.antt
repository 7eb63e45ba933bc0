use Rattle.std.proofs.Common.{◌≡◌, ◌++◌, ◌-◌}
use Rattle.sc_elf_read.specs.Tables.{symbols_in}
use Rattle.sc_elf_read.proofs.tables.symbols_in.Given as goal

abbrev pub invariant-loop-turn : goal.invariant-loop-turn
invariant-loop-turn l = l.all ++ symbols_in (l.count - l.turn) l.rest l.names_left ≡ symbols_in l.count l.bytes l.names
