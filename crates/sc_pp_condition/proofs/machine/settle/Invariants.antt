use Rattle.std.proofs.Common.{◌≡◌, length}
use Rattle.sc_pp_condition.specs.Machine.{settle}
use Rattle.sc_pp_condition.proofs.machine.settle.Given as goal

abbrev pub invariant-closing : goal.invariant-closing
invariant-closing l = settle l.power l.frames l.x l.level ≡ settle l.power l.fn.frames l.fn.x l.fn.level

abbrev pub decreases-closing : goal.decreases-closing
decreases-closing l = length l.frames
