use Rattle.sc_emu.proofs.beginning.obey_read.Goals as goal

pub returns-in-Some-clause-step : goal.returns-in-Some-clause-step
returns-in-Some-clause-step c = λ memory. rw c.in-Some.is (c.prepare.ensures.step memory)
