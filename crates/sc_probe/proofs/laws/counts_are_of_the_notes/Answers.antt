use Rattle.sc_probe.proofs.NumberLemmas.{counts_of-push}
use Rattle.sc_probe.proofs.laws.counts_are_of_the_notes.Goals as goal

pub returns : goal.returns
returns c = λ notes n. counts_of-push notes n
