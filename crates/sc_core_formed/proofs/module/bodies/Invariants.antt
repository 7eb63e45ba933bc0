use Rattle.std.proofs.Common.{◌≡◌, drop}
use Rattle.sc_core_formed.specs.Modules.{bodies}
use Rattle.sc_core_formed.proofs.module.bodies.Given as goal

-- what is to come decides
abbrev pub invariant-loop-f : goal.invariant-loop-f
invariant-loop-f l = bodies l.m.core.now (drop l.f-index l.funs) ≡ bodies l.m.core.now l.funs
