use Rattle.sc_compiled_expressions.proofs.Values.{conjunction, disjunction, negation}
use Rattle.sc_compiled_expressions.proofs.expressions.truth_values_are_given.Goals as goal

pub returns-clause-negation : goal.returns-clause-negation
returns-clause-negation c = negation

pub returns-clause-conjunction : goal.returns-clause-conjunction
returns-clause-conjunction c = conjunction

pub returns-clause-disjunction : goal.returns-clause-disjunction
returns-clause-disjunction c = disjunction
