use Rattle.sc_compiled_bodies.proofs.Storing.{storing_texts}
use Rattle.sc_compiled_bodies.proofs.empty.functions_that_store_and_call_are_right.Goals as goal

pub returns : goal.returns
returns c = storing_texts
