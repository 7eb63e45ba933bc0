use Rattle.sc_mixed_goes.proofs.Stretches.{walks_stretch}
use Rattle.sc_mixed_goes.proofs.laws.walks_are_moves.Goals as goal

pub returns : goal.returns
returns c = walks_stretch
