use Rattle.std.proofs.Common.{◌≡◌, take}
use Rattle.sc_check.proofs.unit.texts.Given as goal

abbrev pub invariant-loop-at : goal.invariant-loop-at
invariant-loop-at l = l.all ≡ take l.at l.literals
