use Rattle.sc_compiled_expressions.proofs.Reading.{far_read}
use Rattle.sc_compiled_expressions.proofs.binary.far_places_are_read.Goals as goal

pub returns : goal.returns
returns c = far_read
