use Rattle.sc_world_change_laws.proofs.Still.{still, still_at, still_lean, still_near}
use Rattle.sc_world_change_laws.proofs.laws.changes_leave_a_run_where_it_stands.Goals as goal

pub returns-clause-still : goal.returns-clause-still
returns-clause-still c = still

pub returns-clause-at : goal.returns-clause-at
returns-clause-at c = still_at

pub returns-clause-lean : goal.returns-clause-lean
returns-clause-lean c = still_lean

pub returns-clause-near : goal.returns-clause-near
returns-clause-near c = still_near
