use Rattle.sc_record.proofs.Runs.{one_more}
use Rattle.sc_record.proofs.laws.states_follow_the_notes.Goals as goal

pub returns : goal.returns
returns c = λ notes n h. one_more notes n h
