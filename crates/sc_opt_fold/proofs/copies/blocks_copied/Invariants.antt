use Rattle.std.proofs.Common.{◌≡◌, take}
use Rattle.sc_opt_fold.proofs.copies.blocks_copied.Given as goal

abbrev pub invariant-loop-autos : goal.invariant-loop-autos
invariant-loop-autos l = l.all ≡ take l.autos-index l.blocks
