use Rattle.std.proofs.Common.{◌≡◌, ◌++◌, drop}
use Rattle.sc_gen.specs.Objects as spec
use Rattle.sc_gen.proofs.symbols.relocs_of.Given as goal

abbrev pub invariant-loop-n : goal.invariant-loop-n
invariant-loop-n l = l.all ++ spec.relocs_from l.targets l.n (drop l.n l.definitions) ≡ spec.relocs_from l.targets 0 l.definitions
