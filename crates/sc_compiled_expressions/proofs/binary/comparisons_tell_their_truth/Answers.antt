use Rattle.sc_compiled_expressions.proofs.Comparing.{compared_late, compared_waits}
use Rattle.sc_compiled_expressions.proofs.binary.comparisons_tell_their_truth.Goals as goal

pub returns-clause-late : goal.returns-clause-late
returns-clause-late c = compared_late

pub returns-clause-waits : goal.returns-clause-waits
returns-clause-waits c = compared_waits
