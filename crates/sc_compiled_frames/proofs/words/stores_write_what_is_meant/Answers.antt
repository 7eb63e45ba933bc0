use Rattle.sc_compiled_frames.proofs.words.stores_write_what_is_meant.Goals as goal
use Rattle.sc_compiled_frames.proofs.Storing.{store_word}
use Rattle.sc_compiled_frames.proofs.Copying.{copy_words}

pub returns-clause-stores : goal.returns-clause-stores
returns-clause-stores c = store_word

pub returns-clause-copies : goal.returns-clause-copies
returns-clause-copies c = copy_words
