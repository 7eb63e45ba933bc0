use Rattle.sc_compiled_bodies.proofs.Whole.{procedures_right}
use Rattle.sc_compiled_bodies.proofs.empty.functions_that_do_their_bodies_are_right.Goals as goal

pub returns : goal.returns
returns c = procedures_right
