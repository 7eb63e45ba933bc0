use Rattle.sc_compiled_expressions.proofs.Call.{call_with_one, call_without}
use Rattle.sc_compiled_expressions.proofs.calls.calls_give_answers.Goals as goal

pub returns-clause-without : goal.returns-clause-without
returns-clause-without c = call_without

pub returns-clause-one : goal.returns-clause-one
returns-clause-one c = call_with_one
