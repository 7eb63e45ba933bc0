use Rattle.sc_compiled_expressions.proofs.Moving.{lost_means, worked_means}
use Rattle.sc_compiled_expressions.proofs.paths.undefined_steps_and_work_are_no_code.Goals as goal

pub returns-clause-lost : goal.returns-clause-lost
returns-clause-lost c = lost_means

pub returns-clause-worked : goal.returns-clause-worked
returns-clause-worked c = worked_means
