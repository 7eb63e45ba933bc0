use Rattle.std.proofs.Common.{◌≡◌, drop}
use Rattle.sc_core_names.specs.Scopes as spec
use Rattle.sc_core_names.proofs.search.scopes_of_module.Given as goal

abbrev pub invariant-loop-m : goal.invariant-loop-m
invariant-loop-m l = spec.scopes_of_module (drop l.m-index l.modules) l.name ≡ spec.scopes_of_module l.modules l.name
