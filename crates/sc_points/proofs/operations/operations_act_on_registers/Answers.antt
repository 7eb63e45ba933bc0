use Rattle.sc_points.proofs.Steps.{constant_acts, pair_acts, single_acts, store_acts}
use Rattle.sc_points.proofs.Whole.{load_moves}
use Rattle.sc_points.proofs.operations.operations_act_on_registers.Goals as goal

pub returns-clause-constant : goal.returns-clause-constant
returns-clause-constant c = constant_acts

pub returns-clause-single : goal.returns-clause-single
returns-clause-single c = single_acts

pub returns-clause-pair : goal.returns-clause-pair
returns-clause-pair c = pair_acts

pub returns-clause-store : goal.returns-clause-store
returns-clause-store c = store_acts

pub returns-clause-load : goal.returns-clause-load
returns-clause-load c = load_moves
