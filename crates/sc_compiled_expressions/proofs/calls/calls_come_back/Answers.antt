use Rattle.sc_compiled_expressions.proofs.Goes.{call_comes_back}
use Rattle.sc_compiled_expressions.proofs.calls.calls_come_back.Goals as goal

pub returns : goal.returns
returns c = call_comes_back
