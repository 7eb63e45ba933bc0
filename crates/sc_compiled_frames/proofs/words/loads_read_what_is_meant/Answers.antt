use Rattle.sc_compiled_frames.proofs.words.loads_read_what_is_meant.Goals as goal
use Rattle.sc_compiled_frames.proofs.Loading.{load_word}
use Rattle.sc_compiled_frames.proofs.Narrowing.{load_reads}

pub returns-clause-loads : goal.returns-clause-loads
returns-clause-loads c = load_word

pub returns-clause-reads : goal.returns-clause-reads
returns-clause-reads c = load_reads
