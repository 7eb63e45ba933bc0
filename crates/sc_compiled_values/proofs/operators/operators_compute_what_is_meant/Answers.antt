use Rattle.sc_compiled_values.proofs.operators.operators_compute_what_is_meant.Goals as goal
use Rattle.sc_compiled_values.proofs.Operating.{operates, operate_keeps}
use Rattle.sc_compiled_values.proofs.Constants.{met}

pub returns-clause-operates : goal.returns-clause-operates
returns-clause-operates c = operates

pub returns-clause-keeps : goal.returns-clause-keeps
returns-clause-keeps c = operate_keeps

pub returns-clause-met : goal.returns-clause-met
returns-clause-met c = met
