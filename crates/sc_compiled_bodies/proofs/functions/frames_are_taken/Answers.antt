use Rattle.sc_compiled_bodies.proofs.Taking.{frame_goes}
use Rattle.sc_compiled_bodies.proofs.functions.frames_are_taken.Goals as goal

pub returns : goal.returns
returns c = frame_goes
