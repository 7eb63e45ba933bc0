use Rattle.std.proofs.Common.{◌≡◌, ◌++◌, drop}
use Rattle.sc_check_operand.specs.Composite.{joined_parameters}
use Rattle.sc_check_operand.proofs.combined.+composite.Given as goal

-- what is to come stands behind what is there
abbrev pub invariant-parameters-loop-i : goal.invariant-parameters-loop-i
invariant-parameters-loop-i l = l.joined ++ joined_parameters (drop l.i l.ps) (drop l.i l.qs) ≡ joined_parameters l.ps l.qs
