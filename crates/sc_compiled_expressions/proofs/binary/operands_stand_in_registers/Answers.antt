use Rattle.sc_compiled_expressions.proofs.Operands.{first_given, into_leaf, into_value, late_given}
use Rattle.sc_compiled_expressions.proofs.Pairs.{pair_beside, pair_waits}
use Rattle.sc_compiled_expressions.proofs.binary.operands_stand_in_registers.Goals as goal

pub returns-clause-first : goal.returns-clause-first
returns-clause-first c = first_given

pub returns-clause-late : goal.returns-clause-late
returns-clause-late c = late_given

pub returns-clause-leaf : goal.returns-clause-leaf
returns-clause-leaf c = into_leaf

pub returns-clause-value : goal.returns-clause-value
returns-clause-value c = into_value

pub returns-clause-beside : goal.returns-clause-beside
returns-clause-beside c = pair_beside

pub returns-clause-waits : goal.returns-clause-waits
returns-clause-waits c = pair_waits
