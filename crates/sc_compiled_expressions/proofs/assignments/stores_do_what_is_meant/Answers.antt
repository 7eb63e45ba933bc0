use Rattle.sc_compiled_expressions.proofs.Storing.{store_meets}
use Rattle.sc_compiled_expressions.proofs.assignments.stores_do_what_is_meant.Goals as goal

pub returns : goal.returns
returns c = store_meets
