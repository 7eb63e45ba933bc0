use Rattle.sc_mixed.proofs.Growing.{goes_lead}
use Rattle.sc_mixed.proofs.laws.moves_add_to_what_happened.Goals as goal

pub returns-clause-goes : goal.returns-clause-goes
returns-clause-goes c = goes_lead
