-- What has happened in a run is the beginning of what its history gives.
use Rattle.sc_world_change_laws.proofs.Through.{all_events, ends_as_meant, first_events, through_comes, through_leads, through_written}
use Rattle.sc_world_change_laws.proofs.laws.runs_show_what_their_history_gives.Goals as goal

pub returns-clause-shows : goal.returns-clause-shows
returns-clause-shows c = λ s h texts m p n lt. first_events s h texts m p n lt

pub returns-clause-happens : goal.returns-clause-happens
returns-clause-happens c = λ s h texts m p n lt. through_leads s h texts m p n lt

pub returns-clause-written : goal.returns-clause-written
returns-clause-written c = λ s h texts m p n lt. through_written s h texts m p n lt

pub returns-clause-comes : goal.returns-clause-comes
returns-clause-comes c = λ s h texts m p. through_comes s h texts m p

pub returns-clause-over : goal.returns-clause-over
returns-clause-over c = λ s h texts m p over n lt. all_events s h texts m p over n lt

pub returns-clause-ends : goal.returns-clause-ends
returns-clause-ends c = λ s h texts m e p q n lt. ends_as_meant s h texts m e p q n lt
