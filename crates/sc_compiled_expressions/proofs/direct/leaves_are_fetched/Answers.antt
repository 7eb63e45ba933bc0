use Rattle.sc_compiled_expressions.proofs.Fetching.{converted_evaluates, leaf_given, number_evaluates, number_leaf, read_leaf}
use Rattle.sc_compiled_expressions.proofs.direct.leaves_are_fetched.Goals as goal

pub returns-clause-read : goal.returns-clause-read
returns-clause-read c = read_leaf

pub returns-clause-number : goal.returns-clause-number
returns-clause-number c = number_leaf

pub returns-clause-evaluates : goal.returns-clause-evaluates
returns-clause-evaluates c = number_evaluates

pub returns-clause-given : goal.returns-clause-given
returns-clause-given c = leaf_given

pub returns-clause-converted : goal.returns-clause-converted
returns-clause-converted c = converted_evaluates
