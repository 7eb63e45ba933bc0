use Rattle.sc_record.proofs.Growth.{last_is_lawful, with_lawful}
use Rattle.sc_record.proofs.laws.lawful_runs_grow.Goals as goal

pub returns : goal.returns
returns c = λ word forms before notes n. (last_is_lawful word forms before notes n, λ h. with_lawful word forms before notes n h.0 h.1)
