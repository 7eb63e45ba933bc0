use Rattle.sc_gen_laws.proofs.Bodies.{function_fits}
use Rattle.sc_gen_laws.proofs.laws.texts_are_short.Goals as goal

pub returns : goal.returns
returns c = function_fits
