-- A go keeps a run one through its history, and a change makes it one through the history with one version more.
use Rattle.sc_world_change_laws.proofs.Through.{change_behind, change_through, goes_through}
use Rattle.sc_world_change_laws.proofs.laws.runs_go_through_their_history.Goals as goal

pub returns-clause-goes : goal.returns-clause-goes
returns-clause-goes c = λ s h texts stops walk turns old halt new p q. goes_through s h texts stops walk turns old halt new p q

pub returns-clause-changes : goal.returns-clause-changes
returns-clause-changes c = λ s h old new m p. change_through s h old new m p

pub returns-clause-again : goal.returns-clause-again
returns-clause-again c = λ s h old new m p. change_behind s h old new m p
