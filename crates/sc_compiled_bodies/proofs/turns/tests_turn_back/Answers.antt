use Rattle.sc_compiled_bodies.proofs.Turning.{far_turns, joined_turns, value_turns}
use Rattle.sc_compiled_bodies.proofs.turns.tests_turn_back.Goals as goal

pub returns-clause-far : goal.returns-clause-far
returns-clause-far c = far_turns

pub returns-clause-joined : goal.returns-clause-joined
returns-clause-joined c = joined_turns

pub returns-clause-value : goal.returns-clause-value
returns-clause-value c = value_turns
