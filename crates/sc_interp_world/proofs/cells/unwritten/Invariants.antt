use Rattle.std.proofs.Common.{◌≡◌, replicate}
use Rattle.sc_meaning.specs.Values as spec
use Rattle.sc_interp_world.proofs.cells.unwritten.Given as goal

abbrev pub invariant-loop : goal.invariant-loop
invariant-loop l = l.out ≡ replicate l.counter spec.Unwritten
