use Rattle.sc_mem.proofs.Runs.{run-one}
use Rattle.sc_mem.proofs.words.written_one.Goals as goal

pub returns : goal.returns
returns c = rw (run-one c.args.cells.now c.args.i c.read-a.result c.read-a.ensures) c.plain_word.ensures
