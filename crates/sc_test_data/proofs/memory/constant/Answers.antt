use Rattle.sc_mem.proofs.Kept.{clear-none}
use Rattle.sc_test_data.proofs.memory.constant.Goals as goal

pub birth-requires-clause-clear : goal.birth-requires-clause-clear
birth-requires-clause-clear c = rw c.in_ok-m.ensures.flat (clear-none 0x08000000 8)
