use Rattle.sc_points.proofs.Tells.{call_silent, end_silent, return_nothing_silent, return_silent}
use Rattle.sc_points.proofs.calls.calls_show_nothing_on_the_way.Goals as goal

pub returns-clause-call : goal.returns-clause-call
returns-clause-call c = call_silent

pub returns-clause-return_value : goal.returns-clause-return_value
returns-clause-return_value c = return_silent

pub returns-clause-return_nothing : goal.returns-clause-return_nothing
returns-clause-return_nothing c = return_nothing_silent

pub returns-clause-end : goal.returns-clause-end
returns-clause-end c = end_silent
