use Rattle.std.proofs.Common.{◌≡◌, map, take}
use Rattle.sc_link.specs.Symbols.{key_of}
use Rattle.sc_incr.proofs.parts.symbol_keys.Given as goal

abbrev pub invariant-loop-symbol : goal.invariant-loop-symbol
invariant-loop-symbol l = l.keys.items ≡ map (key_of l.entry.home) (take l.symbol-index l.symbols)
