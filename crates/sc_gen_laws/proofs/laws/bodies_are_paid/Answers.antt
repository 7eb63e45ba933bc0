use Rattle.sc_gen_laws.proofs.Bounds as bounds
use Rattle.sc_gen_laws.proofs.laws.bodies_are_paid.Goals as goal

pub returns-clause-paid : goal.returns-clause-paid
returns-clause-paid c = bounds.bodies_are_paid

pub returns-clause-exits : goal.returns-clause-exits
returns-clause-exits c = bounds.exits_are_short

pub returns-clause-entries : goal.returns-clause-entries
returns-clause-entries c = bounds.entries_are_short
