-- The instruction, and the label.
use Rattle.sc_flat_write.proofs.choices.decided.Goals as goal

pub returns-clause-tests : goal.returns-clause-tests
returns-clause-tests c = λ texts. (c.alone.new.draft, c.in_ok-w.ensures.pushed texts, c.in_ok-mark.ensures texts)
