use Rattle.std.proofs.Common.{◌≡◌, ◌++◌, map, take}
use Rattle.sc_check_initial.specs.Lists.{zero_piece}
use Rattle.sc_check_initial.proofs.places.put_zeros.Given as goal

abbrev pub invariant-loop-z : goal.invariant-loop-z
invariant-loop-z l = l.pieces ≡ l.fn.pieces ++ map zero_piece (take l.z-index l.zeros)
