use Rattle.sc_compiled_bodies.proofs.First.{first_fit}
use Rattle.sc_compiled_bodies.proofs.fit.first_worlds_are_fit.Goals as goal

pub returns : goal.returns
returns c = first_fit
