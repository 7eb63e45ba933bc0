use Rattle.sc_compiled_bodies.proofs.Blocks.{block_runs}
use Rattle.sc_compiled_bodies.proofs.Listing.{list_runs}
use Rattle.sc_compiled_bodies.proofs.lists.lists_and_blocks_do_what_is_meant.Goals as goal

pub returns-clause-lists : goal.returns-clause-lists
returns-clause-lists c = list_runs

pub returns-clause-blocks : goal.returns-clause-blocks
returns-clause-blocks c = block_runs
