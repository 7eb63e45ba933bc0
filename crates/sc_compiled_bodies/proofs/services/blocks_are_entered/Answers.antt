use Rattle.sc_compiled_bodies.proofs.BlockEntry.{block_entry_means}
use Rattle.sc_compiled_bodies.proofs.services.blocks_are_entered.Goals as goal

pub returns : goal.returns
returns c = block_entry_means
