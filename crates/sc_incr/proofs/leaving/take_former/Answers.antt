use Rattle.sc_incr.proofs.leaving.take_former.Goals as goal

pub returns : goal.returns
returns c = λ ts h l. record { between = c.take_texts.new.image; texts = c.take_texts.ensures ts h l; literals = c.take_literals.ensures }
