use Rattle.sc_compiled_expressions.proofs.Ways.{computes_one_way, loads_one_way}
use Rattle.sc_compiled_expressions.proofs.paths.instructions_go_one_way.Goals as goal

pub returns-clause-computes : goal.returns-clause-computes
returns-clause-computes c = computes_one_way

pub returns-clause-loads : goal.returns-clause-loads
returns-clause-loads c = loads_one_way
