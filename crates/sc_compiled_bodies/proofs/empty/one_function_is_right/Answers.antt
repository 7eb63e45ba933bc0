use Rattle.sc_compiled_bodies.proofs.Small.{small_crosses, small_right}
use Rattle.sc_compiled_bodies.proofs.empty.one_function_is_right.Goals as goal

pub returns-clause-right : goal.returns-clause-right
returns-clause-right c = small_right

pub returns-clause-crosses : goal.returns-clause-crosses
returns-clause-crosses c = small_crosses
