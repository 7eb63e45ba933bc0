use Rattle.std.proofs.Common.{◌≡◌, map, take}
use Rattle.sc_gen.specs.Objects as spec
use Rattle.sc_gen.proofs.symbols.symbols_of.Given as goal

abbrev pub invariant-loop-t : goal.invariant-loop-t
invariant-loop-t l = l.all ≡ map (spec.symbol_of l.homes.all.now) (take l.t-index l.targets)
