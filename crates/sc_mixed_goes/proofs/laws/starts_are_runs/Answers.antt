use Rattle.sc_mixed_goes.proofs.Starting.{starts_run}
use Rattle.sc_mixed_goes.proofs.laws.starts_are_runs.Goals as goal

pub returns : goal.returns
returns c = starts_run
