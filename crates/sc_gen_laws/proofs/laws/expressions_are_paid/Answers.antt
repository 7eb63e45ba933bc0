use Rattle.sc_gen_laws.proofs.Paid as paid
use Rattle.sc_gen_laws.proofs.laws.expressions_are_paid.Goals as goal

pub returns : goal.returns
returns c = paid.expressions_are_paid
