use Rattle.sc_placed_laws.proofs.Statements.{function_sound}
use Rattle.sc_placed_laws.proofs.laws.code_is_sound.Goals as goal

pub returns : goal.returns
returns c = function_sound
