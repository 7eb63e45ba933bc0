use Rattle.std.proofs.Common.{◌≡◌, ◌++◌, flat_map, map, take}
use Rattle.sc_link.specs.Entries.{each}
use Rattle.sc_link.specs.Symbols.{literal_of}
use Rattle.sc_link.proofs.collect.add_literals.Given as goal

abbrev pub invariant-loop-symbol : goal.invariant-loop-symbol
invariant-loop-symbol l = l.literals.items ≡ l.initial.literals.items ++ each (literal_of l.entry) (take l.symbol-index l.symbol-items)
