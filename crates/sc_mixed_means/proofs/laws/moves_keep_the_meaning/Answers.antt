use Rattle.sc_mixed_means.proofs.Moves.{moves_keep}
use Rattle.sc_mixed_means.proofs.laws.moves_keep_the_meaning.Goals as goal

pub returns : goal.returns
returns c = moves_keep
