use Rattle.std.proofs.Common.{◌≡◌, map, take}
use Rattle.sc_core.specs.declared.module.Auto.{Auto}
use Rattle.sc_gen.proofs.blocks.block_table.Given as goal

abbrev pub invariant-loop-object : goal.invariant-loop-object
invariant-loop-object l = l.slots ≡ map (λ (x : Auto). x.slot) (take l.object-index l.autos)
