use Rattle.std.proofs.Common.{◌≡◌, ◌++◌, drop}
use Rattle.sc_check_declare.specs.Composites.{parameters}
use Rattle.sc_check_declare.proofs.join.+composite.Given as goal

abbrev pub invariant-parameters-loop-i : goal.invariant-parameters-loop-i
invariant-parameters-loop-i l = (l.all ++ parameters (drop l.i l.ps) (drop l.i l.qs)) ≡ parameters l.ps l.qs
