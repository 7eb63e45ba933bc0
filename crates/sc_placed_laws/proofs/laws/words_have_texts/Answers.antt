use Rattle.sc_placed_laws.proofs.Image.{image_has_texts}
use Rattle.sc_placed_laws.proofs.laws.words_have_texts.Goals as goal

pub returns : goal.returns
returns c = image_has_texts
