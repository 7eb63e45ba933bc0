use Rattle.sc_compiled_bodies.proofs.ComparingBack.{compare_turns}
use Rattle.sc_compiled_bodies.proofs.turns.comparisons_turn_back.Goals as goal

pub returns : goal.returns
returns c = compare_turns
