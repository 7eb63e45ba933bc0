use Rattle.std.proofs.Common.{◌≡◌, drop}
use Rattle.sc_core_formed.specs.Modules.{declarations}
use Rattle.sc_core_formed.proofs.module.declarations.Given as goal

-- what is to come decides
abbrev pub invariant-loop-d : goal.invariant-loop-d
invariant-loop-d l = declarations l.m.core.now (drop l.d-index l.declared) ≡ declarations l.m.core.now l.declared
