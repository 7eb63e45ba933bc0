use Rattle.sc_like.proofs.laws.worlds_stay_alike.Goals as goal
use Rattle.sc_like.proofs.Keeping.{passes}

pub returns-clause-items : goal.returns-clause-items
returns-clause-items c = passes
