use Rattle.sc_compiled_bodies.proofs.Outs.{outs_brought}
use Rattle.sc_compiled_bodies.proofs.functions.what_went_out_came_back.Goals as goal

pub returns : goal.returns
returns c = outs_brought
