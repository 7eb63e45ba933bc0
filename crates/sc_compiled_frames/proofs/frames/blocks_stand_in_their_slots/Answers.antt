use Rattle.sc_compiled_frames.proofs.frames.blocks_stand_in_their_slots.Goals as goal
use Rattle.sc_compiled_frames.proofs.Blocks.{block_entered, block_left, first_frame, one_fits}

pub returns-clause-entered : goal.returns-clause-entered
returns-clause-entered c = block_entered

pub returns-clause-left : goal.returns-clause-left
returns-clause-left c = block_left

pub returns-clause-first : goal.returns-clause-first
returns-clause-first c = first_frame

pub returns-clause-fits : goal.returns-clause-fits
returns-clause-fits c = one_fits
