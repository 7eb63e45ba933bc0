use Rattle.std.proofs.Common.{◌≡◌, ◌++◌, flat_map, map, take}
use Rattle.sc_link.specs.Entries.{each}
use Rattle.sc_link.specs.Symbols.{static_of}
use Rattle.sc_link.proofs.collect.add_statics.Given as goal

abbrev pub invariant-loop-symbol : goal.invariant-loop-symbol
invariant-loop-symbol l = l.statics.items ≡ l.initial.statics.items ++ each (static_of l.entry) (take l.symbol-index l.symbol-items)
