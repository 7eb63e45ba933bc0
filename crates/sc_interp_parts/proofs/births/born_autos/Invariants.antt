use Rattle.std.proofs.Common.{◌≡◌, [], drop}
use Rattle.sc_meaning.specs.Statements as spec
use Rattle.sc_interp_parts.proofs.births.born_autos.Given as goal

abbrev pub invariant-loop-a : goal.invariant-loop-a
invariant-loop-a l = spec.born_autos (drop l.a-index l.autos) l.ids l.world ≡ spec.born_autos l.autos [] l.fn.world
