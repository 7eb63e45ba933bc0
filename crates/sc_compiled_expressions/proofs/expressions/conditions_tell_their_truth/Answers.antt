use Rattle.sc_compiled_expressions.proofs.Conditions.{and_tells, not_tells, or_tells, value_tells}
use Rattle.sc_compiled_expressions.proofs.expressions.conditions_tell_their_truth.Goals as goal

pub returns-clause-value : goal.returns-clause-value
returns-clause-value c = value_tells

pub returns-clause-negation : goal.returns-clause-negation
returns-clause-negation c = not_tells

pub returns-clause-conjunction : goal.returns-clause-conjunction
returns-clause-conjunction c = and_tells

pub returns-clause-disjunction : goal.returns-clause-disjunction
returns-clause-disjunction c = or_tells
