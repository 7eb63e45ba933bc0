use Rattle.sc_compiled_bodies.proofs.Ends.{epilogue_returns}
use Rattle.sc_compiled_bodies.proofs.functions.epilogues_return.Goals as goal

pub returns : goal.returns
returns c = epilogue_returns
