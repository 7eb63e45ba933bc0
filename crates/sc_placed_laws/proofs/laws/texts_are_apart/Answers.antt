use Rattle.sc_placed_laws.proofs.Apart.{texts_apart}
use Rattle.sc_placed_laws.proofs.laws.texts_are_apart.Goals as goal

pub returns : goal.returns
returns c = texts_apart
