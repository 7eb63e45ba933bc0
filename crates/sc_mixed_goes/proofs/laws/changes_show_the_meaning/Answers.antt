use Rattle.sc_mixed_goes.proofs.Changing.{changes_show}
use Rattle.sc_mixed_goes.proofs.laws.changes_show_the_meaning.Goals as goal

pub returns : goal.returns
returns c = changes_show
