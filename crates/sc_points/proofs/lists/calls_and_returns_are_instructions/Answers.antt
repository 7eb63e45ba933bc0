use Rattle.sc_points.proofs.Crossings.{call_does, end_does, once_does, return_does, return_nothing_does}
use Rattle.sc_points.proofs.lists.calls_and_returns_are_instructions.Goals as goal

pub returns-clause-once : goal.returns-clause-once
returns-clause-once c = once_does

pub returns-clause-call : goal.returns-clause-call
returns-clause-call c = call_does

pub returns-clause-return_value : goal.returns-clause-return_value
returns-clause-return_value c = return_does

pub returns-clause-return_nothing : goal.returns-clause-return_nothing
returns-clause-return_nothing c = return_nothing_does

pub returns-clause-end : goal.returns-clause-end
returns-clause-end c = end_does
