use Rattle.sc_compiled_expressions.proofs.Assigning.{assign_waits}
use Rattle.sc_compiled_expressions.proofs.assignments.assignments_give_what_they_write.Goals as goal

pub returns : goal.returns
returns c = assign_waits
