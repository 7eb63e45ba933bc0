use Rattle.sc_meaning.proofs.Histories.{changes_nothing_behind}
use Rattle.sc_interp_change_laws.proofs.laws.versions_change_nothing_behind.Goals as goal

pub returns : goal.returns
returns c = changes_nothing_behind
