use Rattle.sc_compiled_expressions.proofs.Feet.{foot_is_word, indirection_foot}
use Rattle.sc_compiled_expressions.proofs.binary.feet_are_given.Goals as goal

pub returns-clause-word : goal.returns-clause-word
returns-clause-word c = foot_is_word

pub returns-clause-indirection : goal.returns-clause-indirection
returns-clause-indirection c = indirection_foot
