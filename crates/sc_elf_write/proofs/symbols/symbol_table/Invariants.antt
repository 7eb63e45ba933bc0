use Rattle.std.proofs.Common.{◌≡◌, take}
use Rattle.sc_object.specs.Parts.{symbol_table}
use Rattle.sc_elf_write.proofs.symbols.symbol_table.Given as goal

abbrev pub invariant-loop-symbol : goal.invariant-loop-symbol
invariant-loop-symbol l = l.table ≡ symbol_table (take l.symbol-index l.symbols)
