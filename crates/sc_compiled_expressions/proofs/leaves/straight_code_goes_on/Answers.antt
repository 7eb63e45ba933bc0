use Rattle.sc_compiled_expressions.proofs.Registers.{straight_place}
use Rattle.sc_compiled_expressions.proofs.leaves.straight_code_goes_on.Goals as goal

pub returns : goal.returns
returns c = straight_place
