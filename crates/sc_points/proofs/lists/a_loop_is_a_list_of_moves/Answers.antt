use Rattle.sc_points.proofs.Loop.{loop_made, loop_moves}
use Rattle.sc_points.proofs.lists.a_loop_is_a_list_of_moves.Goals as goal

pub returns-clause-moves : goal.returns-clause-moves
returns-clause-moves c = loop_moves

pub returns-clause-made : goal.returns-clause-made
returns-clause-made c = loop_made
