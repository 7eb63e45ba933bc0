use Rattle.sc_compiled_expressions.proofs.Setting.{assign_direct, number_keeps}
use Rattle.sc_compiled_expressions.proofs.assignments.assignments_to_names_give_what_they_write.Goals as goal

pub returns-clause-assigns : goal.returns-clause-assigns
returns-clause-assigns c = assign_direct

pub returns-clause-names : goal.returns-clause-names
returns-clause-names c = number_keeps
