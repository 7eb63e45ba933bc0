use Rattle.sc_points.proofs.Breaking.{births_end, library_ends, rule_ends, stack_ends}
use Rattle.sc_points.proofs.calls.calls_that_end_the_run_are_two_steps.Goals as goal

pub returns-clause-rule : goal.returns-clause-rule
returns-clause-rule c = rule_ends

pub returns-clause-stack : goal.returns-clause-stack
returns-clause-stack c = stack_ends

pub returns-clause-births : goal.returns-clause-births
returns-clause-births c = births_end

pub returns-clause-library : goal.returns-clause-library
returns-clause-library c = library_ends
