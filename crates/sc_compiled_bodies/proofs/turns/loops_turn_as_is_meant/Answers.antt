use Rattle.sc_compiled_bodies.proofs.Loops.{while_runs}
use Rattle.sc_compiled_bodies.proofs.turns.loops_turn_as_is_meant.Goals as goal

pub returns : goal.returns
returns c = while_runs
