use Rattle.sc_mem.proofs.Runs.{run-two}
use Rattle.sc_mem.proofs.words.written_two.Goals as goal

pub returns : goal.returns
returns c = rw (run-two c.args.cells.now c.args.i c.read-a.result c.read-b.result c.read-a.ensures c.read-b.ensures) c.plain_half.ensures
