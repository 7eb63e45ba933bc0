use Rattle.std.proofs.Common.{◌≡◌, drop}
use Rattle.sc_core_formed.specs.Frames.{parameters}
use Rattle.sc_core_formed.proofs.frames.parameters.Given as goal

-- what is to come decides
abbrev pub invariant-loop-i : goal.invariant-loop-i
invariant-loop-i l = parameters l.structs (drop l.i l.params) (drop l.i l.autos) ≡ parameters l.structs l.params l.autos
