use Rattle.sc_services.proofs.Given.{AreFirst}
use Rattle.sc_services.proofs.arguments.arguments.Given as goal

abbrev pub invariant-loop-k : goal.invariant-loop-k
invariant-loop-k l = AreFirst l.k l.regs l.world l.values
