use Rattle.sc_world_laws.proofs.Halting.{goes_last, goes_seen}
use Rattle.sc_world_laws.proofs.laws.goes_halt_right_behind_events.Goals as goal

pub returns-clause-seen : goal.returns-clause-seen
returns-clause-seen c = goes_seen

pub returns-clause-last : goal.returns-clause-last
returns-clause-last c = goes_last
