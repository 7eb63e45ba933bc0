-- The instruction, and the label.
use Rattle.sc_flat_write.proofs.choices.turns.Goals as goal

pub returns : goal.returns
returns c = record { turns = λ texts. (c.push.new.self, c.in_ok-push.ensures texts, c.in_ok-mark.ensures texts) }
