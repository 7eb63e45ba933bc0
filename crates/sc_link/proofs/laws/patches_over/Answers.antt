use Rattle.sc_link.proofs.Patches.{again}
use Rattle.sc_link.proofs.laws.patches_over.Goals as goal

pub returns : goal.returns
returns c = again
