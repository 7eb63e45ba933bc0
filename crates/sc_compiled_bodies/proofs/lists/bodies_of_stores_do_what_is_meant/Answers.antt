use Rattle.sc_compiled_bodies.proofs.Steps.{block_gives, block_back}
use Rattle.sc_compiled_bodies.proofs.lists.bodies_of_stores_do_what_is_meant.Goals as goal

pub returns-clause-gives : goal.returns-clause-gives
returns-clause-gives c = block_gives

pub returns-clause-ends : goal.returns-clause-ends
returns-clause-ends c = block_back
