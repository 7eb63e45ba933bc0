use Rattle.sc_mixed.specs.Instructions.{Ran}
use Rattle.sc_mixed.proofs.execute.execute_heard.Given as goal

abbrev pub invariant-loop-k : goal.invariant-loop-k
invariant-loop-k l = Ran l.image l.k l.fn.regs l.fn.world l.regs l.world
