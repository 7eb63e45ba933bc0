use Rattle.sc_compiled_expressions.proofs.Choices.{conditional}
use Rattle.sc_compiled_expressions.proofs.Nodes.{comma, indirection, plain_answer, plain_value}
use Rattle.sc_compiled_expressions.proofs.expressions.nodes_give_answers.Goals as goal

pub returns-clause-indirection : goal.returns-clause-indirection
returns-clause-indirection c = indirection

pub returns-clause-comma : goal.returns-clause-comma
returns-clause-comma c = comma

pub returns-clause-choice : goal.returns-clause-choice
returns-clause-choice c = conditional

pub returns-clause-value : goal.returns-clause-value
returns-clause-value c = plain_value

pub returns-clause-answer : goal.returns-clause-answer
returns-clause-answer c = plain_answer
