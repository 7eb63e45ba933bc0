use Rattle.sc_compiled_expressions.proofs.Memory.{binary_remembers, pair_remembers}
use Rattle.sc_compiled_expressions.proofs.apply.operands_wait_in_the_frame.Goals as goal

pub returns-clause-pair : goal.returns-clause-pair
returns-clause-pair c = pair_remembers

pub returns-clause-operator : goal.returns-clause-operator
returns-clause-operator c = binary_remembers
