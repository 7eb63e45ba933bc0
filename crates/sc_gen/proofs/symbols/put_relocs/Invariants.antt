use Rattle.std.proofs.Common.{◌≡◌, ◌++◌, map, take}
use Rattle.sc_gen.specs.Objects as spec
use Rattle.sc_gen.proofs.symbols.put_relocs.Given as goal

abbrev pub invariant-loop-x : goal.invariant-loop-x
invariant-loop-x l = l.all ≡ l.initial.all ++ map (spec.reloc_of l.targets l.section) (take l.x-index l.fixups)
