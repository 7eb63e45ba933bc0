use Rattle.sc_pp.proofs.frame.turn.Goals as goal

pub returns-in-Else : goal.returns-in-Else
returns-in-Else c = rw c.in-Else.is (c.at_else.ensures)

pub returns-in-Endif : goal.returns-in-Endif
returns-in-Endif c = rw c.in-Endif.is (c.at_endif.ensures)
