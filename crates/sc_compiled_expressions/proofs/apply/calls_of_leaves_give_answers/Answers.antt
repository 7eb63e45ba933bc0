use Rattle.sc_compiled_expressions.proofs.CallingLeaves.{call_of_leaves}
use Rattle.sc_compiled_expressions.proofs.apply.calls_of_leaves_give_answers.Goals as goal

pub returns : goal.returns
returns c = call_of_leaves
