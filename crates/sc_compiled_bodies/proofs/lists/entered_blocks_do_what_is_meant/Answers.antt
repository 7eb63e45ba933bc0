use Rattle.sc_compiled_bodies.proofs.EnteredBlocks.{entered_runs}
use Rattle.sc_compiled_bodies.proofs.lists.entered_blocks_do_what_is_meant.Goals as goal

pub returns : goal.returns
returns c = entered_runs
