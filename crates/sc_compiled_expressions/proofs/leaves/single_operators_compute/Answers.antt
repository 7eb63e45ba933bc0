use Rattle.sc_compiled_expressions.proofs.Singles.{complement_given, minus_given}
use Rattle.sc_compiled_expressions.proofs.leaves.single_operators_compute.Goals as goal

pub returns-clause-minus : goal.returns-clause-minus
returns-clause-minus c = minus_given

pub returns-clause-complement : goal.returns-clause-complement
returns-clause-complement c = complement_given
