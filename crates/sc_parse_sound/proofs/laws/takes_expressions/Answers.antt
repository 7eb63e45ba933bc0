-- The law is a lemma on lists.
use Rattle.sc_parse_sound.proofs.Sound.{sound}
use Rattle.sc_parse_sound.proofs.laws.takes_expressions.Goals as goal

pub returns : goal.returns
returns c = record { taken = λ names after n fs ts t x small h. sound names n ts t after fs x small h }
