use Rattle.sc_compiled_values.proofs.operators.branches_take_what_is_meant.Goals as goal
use Rattle.sc_compiled_values.proofs.Constants.{branches}

pub returns : goal.returns
returns c = branches
