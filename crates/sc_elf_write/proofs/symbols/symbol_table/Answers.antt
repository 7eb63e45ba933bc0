use Rattle.std.proofs.Common.{◌∷◌, [], replicate}
use Rattle.sc_object.specs.Parts.{with_symbol}
use Rattle.sc_elf_write.proofs.Steps.{fold_step}
use Rattle.sc_elf_write.proofs.symbols.symbol_table.Goals as goal

pub loop-symbol-preserved : goal.loop-symbol-preserved
loop-symbol-preserved c =
    fold_step with_symbol (record { entries = replicate 16 0; names = 0 ∷ [] }) c.args.symbols.now c.loop-symbol.symbol-index c.symbol-item.result c.loop-symbol.table c.in_ok-table.table c.loop-symbol.invariant c.in_ok-table.ensures c.symbol-item.is c.loop-symbol-test.true
