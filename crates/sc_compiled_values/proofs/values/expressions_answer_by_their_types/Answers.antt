use Rattle.sc_compiled_values.proofs.values.expressions_answer_by_their_types.Goals as goal
use Rattle.sc_compiled_values.proofs.Texts.{texts_formed}
use Rattle.sc_compiled_values.proofs.Returning.{expression_fits, call_fits}

pub returns-clause-expressions : goal.returns-clause-expressions
returns-clause-expressions c = expression_fits

pub returns-clause-calls : goal.returns-clause-calls
returns-clause-calls c = call_fits

pub returns-clause-texts : goal.returns-clause-texts
returns-clause-texts c = texts_formed
