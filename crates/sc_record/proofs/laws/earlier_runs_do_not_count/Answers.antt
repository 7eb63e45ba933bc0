use Rattle.sc_record.proofs.Runs.{in_front}
use Rattle.sc_record.proofs.laws.earlier_runs_do_not_count.Goals as goal

pub returns : goal.returns
returns c = λ before notes stack heap. in_front before notes stack heap
