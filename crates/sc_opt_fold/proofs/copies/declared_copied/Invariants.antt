use Rattle.std.proofs.Common.{◌≡◌, take}
use Rattle.sc_opt_fold.proofs.copies.declared_copied.Given as goal

abbrev pub invariant-loop-d : goal.invariant-loop-d
invariant-loop-d l = l.copies ≡ take l.d-index l.all
