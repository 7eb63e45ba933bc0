use Rattle.sc_compiled_bodies.proofs.Nothing.{empty_texts}
use Rattle.sc_compiled_bodies.proofs.empty.functions_without_statements_are_right.Goals as goal

pub returns : goal.returns
returns c = empty_texts
