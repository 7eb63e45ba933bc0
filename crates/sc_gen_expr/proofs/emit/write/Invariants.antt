use Rattle.std.proofs.Common.{take}
use Rattle.sc_gen_expr.specs.Emitted.{Appends}
use Rattle.sc_gen_expr.proofs.emit.write.Given as goal

abbrev pub invariant-loop-s : goal.invariant-loop-s
invariant-loop-s l = Appends (take l.s-index l.code) l.initial.at l.at
