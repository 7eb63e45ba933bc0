use Rattle.sc_compiled_expressions.proofs.Getting.{pops}
use Rattle.sc_compiled_expressions.proofs.Pushing.{met, pushes}
use Rattle.sc_compiled_expressions.proofs.apply.words_wait_beside_objects.Goals as goal

pub returns-clause-pushed : goal.returns-clause-pushed
returns-clause-pushed c = pushes

pub returns-clause-popped : goal.returns-clause-popped
returns-clause-popped c = pops

pub returns-clause-met : goal.returns-clause-met
returns-clause-met c = met
