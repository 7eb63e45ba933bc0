use Rattle.sc_mixed_goes.proofs.Showing.{walks_show}
use Rattle.sc_mixed_goes.proofs.laws.walks_show_the_meaning.Goals as goal

pub returns : goal.returns
returns c = walks_show
