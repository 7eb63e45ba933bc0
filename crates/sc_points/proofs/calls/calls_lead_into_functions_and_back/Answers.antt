use Rattle.sc_points.proofs.Calling.{argument_calls, end_acts, function_calls, return_void_acts}
use Rattle.sc_points.proofs.Frames.{call_acts, return_acts}
use Rattle.sc_points.proofs.calls.calls_lead_into_functions_and_back.Goals as goal

pub returns-clause-argument : goal.returns-clause-argument
returns-clause-argument c = argument_calls

pub returns-clause-function : goal.returns-clause-function
returns-clause-function c = function_calls

pub returns-clause-call : goal.returns-clause-call
returns-clause-call c = call_acts

pub returns-clause-return_value : goal.returns-clause-return_value
returns-clause-return_value c = return_acts

pub returns-clause-return_nothing : goal.returns-clause-return_nothing
returns-clause-return_nothing c = return_void_acts

pub returns-clause-end : goal.returns-clause-end
returns-clause-end c = end_acts
