use Rattle.sc_mixed_means.proofs.Returns.{runs_return}
use Rattle.sc_mixed_means.proofs.Runs.{changes_over, runs_end, runs_show}
use Rattle.sc_mixed_means.proofs.laws.mixed_runs_show_their_meaning.Goals as goal

pub returns-clause-shown : goal.returns-clause-shown
returns-clause-shown c = runs_show

pub returns-clause-ends : goal.returns-clause-ends
returns-clause-ends c = runs_end

pub returns-clause-changes : goal.returns-clause-changes
returns-clause-changes c = changes_over

pub returns-clause-returned : goal.returns-clause-returned
returns-clause-returned c = runs_return
