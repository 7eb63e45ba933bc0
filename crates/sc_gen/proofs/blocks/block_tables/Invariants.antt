use Rattle.std.proofs.Common.{◌≡◌, ◌++◌, drop}
use Rattle.sc_gen.specs.Blocks as spec
use Rattle.sc_gen.proofs.blocks.block_tables.Given as goal

abbrev pub invariant-loop-n : goal.invariant-loop-n
invariant-loop-n l = l.all ++ spec.block_tables l.lines l.n (drop l.n l.blocks) ≡ spec.block_tables l.lines 0 l.blocks
