use Rattle.sc_compiled_bodies.proofs.Caller.{caller_crosses, caller_right}
use Rattle.sc_compiled_bodies.proofs.empty.two_functions_are_right.Goals as goal

pub returns-clause-right : goal.returns-clause-right
returns-clause-right c = caller_right

pub returns-clause-crosses : goal.returns-clause-crosses
returns-clause-crosses c = caller_crosses
