use Rattle.std.proofs.Common.{◌≡◌, take}
use Rattle.sc_opt_fold.proofs.copies.block_copied.Given as goal

abbrev pub invariant-loop-x : goal.invariant-loop-x
invariant-loop-x l = l.all ≡ take l.x-index l.autos
