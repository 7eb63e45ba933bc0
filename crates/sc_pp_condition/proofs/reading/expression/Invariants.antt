use Rattle.std.proofs.Common.{◌≡◌, Some, take}
use Rattle.sc_pp_condition.specs.Machine.{run}
use Rattle.sc_pp_condition.proofs.OneValue.{start}
use Rattle.sc_pp_condition.proofs.reading.expression.Given as goal

-- the machine took the terms so far
abbrev pub invariant-loop-term : goal.invariant-loop-term
invariant-loop-term l = run start (take l.term-index l.terms) ≡ Some (l.frames, l.state)
