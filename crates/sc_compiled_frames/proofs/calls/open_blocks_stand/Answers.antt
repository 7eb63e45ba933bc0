use Rattle.sc_compiled_frames.proofs.calls.open_blocks_stand.Goals as goal
use Rattle.sc_compiled_frames.proofs.Opens.{block_opens, open_later}

pub returns-clause-inner : goal.returns-clause-inner
returns-clause-inner c = block_opens

pub returns-clause-later : goal.returns-clause-later
returns-clause-later c = open_later
