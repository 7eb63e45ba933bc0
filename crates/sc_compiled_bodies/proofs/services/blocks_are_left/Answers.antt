use Rattle.sc_compiled_bodies.proofs.BlockExit.{block_exit_means}
use Rattle.sc_compiled_bodies.proofs.services.blocks_are_left.Goals as goal

pub returns : goal.returns
returns c = block_exit_means
