-- What the rest gives from here is what all give from the beginning.
use Rattle.std.proofs.Common.{◌≡◌, drop}
use Rattle.sc_check.specs.Units.{externals}
use Rattle.sc_check.proofs.unit.externals.Given as goal

abbrev pub invariant-loop-x : goal.invariant-loop-x
invariant-loop-x l = externals (drop l.x-index l.items) l.m ≡ externals l.items l.fn.m
