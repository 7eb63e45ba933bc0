use Rattle.sc_compiled_frames.proofs.frames.words_wait_in_the_frame.Goals as goal
use Rattle.sc_compiled_frames.proofs.Waiting.{word_is_read, word_waits}

pub returns-clause-waits : goal.returns-clause-waits
returns-clause-waits c = word_waits

pub returns-clause-read : goal.returns-clause-read
returns-clause-read c = word_is_read
