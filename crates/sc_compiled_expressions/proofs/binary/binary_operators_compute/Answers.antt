use Rattle.sc_compiled_expressions.proofs.Operating.{binary_held, binary_late, binary_waits}
use Rattle.sc_compiled_expressions.proofs.binary.binary_operators_compute.Goals as goal

pub returns-clause-held : goal.returns-clause-held
returns-clause-held c = binary_held

pub returns-clause-late : goal.returns-clause-late
returns-clause-late c = binary_late

pub returns-clause-waits : goal.returns-clause-waits
returns-clause-waits c = binary_waits
