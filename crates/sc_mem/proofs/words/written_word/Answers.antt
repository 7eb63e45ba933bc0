use Rattle.sc_mem.proofs.words.written_word.Goals as goal

pub returns-then-n-eq4 : goal.returns-then-n-eq4
returns-then-n-eq4 c = rw c.if-n-eq4.true c.written_four.ensures

pub returns-then-n-eq1 : goal.returns-then-n-eq1
returns-then-n-eq1 c = rw c.if-n-eq1.true c.written_one.ensures

pub returns-then-n-eq2 : goal.returns-then-n-eq2
returns-then-n-eq2 c = rw c.if-n-eq2.true c.written_two.ensures
