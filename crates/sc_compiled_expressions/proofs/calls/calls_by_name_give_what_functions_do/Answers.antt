use Rattle.sc_compiled_expressions.proofs.Calling.{direct_call}
use Rattle.sc_compiled_expressions.proofs.calls.calls_by_name_give_what_functions_do.Goals as goal

pub returns : goal.returns
returns c = direct_call
