use Rattle.sc_compiled_expressions.proofs.Numbers.{number_given}
use Rattle.sc_compiled_expressions.proofs.leaves.numbers_are_given.Goals as goal

pub returns : goal.returns
returns c = number_given
