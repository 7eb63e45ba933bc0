use Rattle.std.proofs.Common.{◌≡◌, [], drop}
use Rattle.sc_meaning.specs.Calls as spec
use Rattle.sc_interp_parts.proofs.births.parameters.Given as goal

abbrev pub invariant-loop-a : goal.invariant-loop-a
invariant-loop-a l = spec.parameters (drop l.a-index l.autos) l.rest l.ids l.world ≡ spec.parameters l.autos l.vs [] l.fn.world
