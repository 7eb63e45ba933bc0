use Rattle.std.proofs.Common.{◌≡◌, drop}
use Rattle.sc_opt.specs.Kept.{with_block}
use Rattle.sc_opt.proofs.kept.put_block.Given as goal

abbrev pub invariant-loop-x : goal.invariant-loop-x
invariant-loop-x l = with_block l.body l.block l.place (drop l.x-index l.autos) l.kept ≡ with_block l.body l.block 0 l.autos l.initial.kept
