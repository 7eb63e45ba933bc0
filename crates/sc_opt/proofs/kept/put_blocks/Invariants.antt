use Rattle.std.proofs.Common.{◌≡◌, drop}
use Rattle.sc_opt.specs.Kept.{with_blocks}
use Rattle.sc_opt.proofs.kept.put_blocks.Given as goal

abbrev pub invariant-loop-autos : goal.invariant-loop-autos
invariant-loop-autos l = with_blocks l.body l.block (drop l.autos-index l.blocks) l.kept ≡ with_blocks l.body 0 l.blocks l.initial.kept
