use Rattle.std.proofs.Common.{arith}
use Rattle.sc_cells.specs.Range.{range_of}
use Rattle.sc_mem.proofs.Written.{four_written}
use Rattle.sc_mem.proofs.words.written_four.Goals as goal

pub returns-in-Some : goal.returns-in-Some
returns-in-Some c = four_written (range_of c.args.cells.now c.args.i 4) c.in-Some.word (omega arith) c.in-Some.ensures
