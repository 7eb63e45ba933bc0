use Rattle.sc_compiled_bodies.proofs.Unentered.{block_closed, block_opened}
use Rattle.sc_compiled_bodies.proofs.lists.blocks_without_objects_are_not_seen.Goals as goal

pub returns-clause-opened : goal.returns-clause-opened
returns-clause-opened c = block_opened

pub returns-clause-closed : goal.returns-clause-closed
returns-clause-closed c = block_closed
