use Rattle.sc_compiled_bodies.proofs.First.{no_stubs}
use Rattle.sc_compiled_bodies.proofs.fit.without_stubs_nothing_is_owed.Goals as goal

pub returns : goal.returns
returns c = no_stubs
