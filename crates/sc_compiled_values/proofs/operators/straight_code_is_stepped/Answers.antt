use Rattle.sc_compiled_values.proofs.operators.straight_code_is_stepped.Goals as goal
use Rattle.sc_compiled_values.proofs.Steps.{straight_steps}

pub returns : goal.returns
returns c = straight_steps
