use Rattle.sc_compiled_values.proofs.operators.constants_compute_what_is_meant.Goals as goal
use Rattle.sc_compiled_values.proofs.Constants.{immediates, singles, denies}

pub returns-clause-immediates : goal.returns-clause-immediates
returns-clause-immediates c = immediates

pub returns-clause-singles : goal.returns-clause-singles
returns-clause-singles c = singles

pub returns-clause-denies : goal.returns-clause-denies
returns-clause-denies c = denies
