use Rattle.std.proofs.Common.{◌≡◌, drop}
use Rattle.sc_gen_body.specs.Functions as spec
use Rattle.sc_gen_body.proofs.functions.parameter_at.Given as goal

abbrev pub invariant-loop-i : goal.invariant-loop-i
invariant-loop-i l = spec.parameter_at l.offset l.i (drop l.i l.parameters) ≡ spec.parameter_at l.offset 0 l.parameters
