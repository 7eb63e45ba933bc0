use Rattle.std.proofs.Common.{◌≡◌, drop}
use Rattle.sc_core_formed.specs.Modules.{parameters}
use Rattle.sc_core_formed.proofs.module.parameters.Given as goal

-- what is to come decides
abbrev pub invariant-loop-i : goal.invariant-loop-i
invariant-loop-i l = parameters l.structs (drop l.i l.ps) (drop l.i l.qs) ≡ parameters l.structs l.ps l.qs
