use Rattle.std.proofs.Common.{take}
use Rattle.sc_unlink.specs.Taking.{TakesValues}
use Rattle.sc_unlink.proofs.values.take_values.Given as goal

abbrev pub invariant-loop-object : goal.invariant-loop-object
invariant-loop-object l = TakesValues (take l.object-index l.objects) l.initial.image l.image
