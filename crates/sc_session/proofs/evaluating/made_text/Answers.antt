use Rattle.sc_session.proofs.evaluating.made_text.Goals as goal

pub returns-in-Ok-text_of : goal.returns-in-Ok-text_of
returns-in-Ok-text_of c = (c.in-Ok.evaluation, c.in-Ok.ensures, c.in-Ok-text_of.ensures)
