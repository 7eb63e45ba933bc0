use Rattle.std.proofs.Common.{◌≡◌, drop}
use Rattle.sc_core_names.specs.Scopes as spec
use Rattle.sc_core_names.proofs.search.function_named.Given as goal

abbrev pub invariant-loop-f : goal.invariant-loop-f
invariant-loop-f l = spec.function_named (drop l.f-index l.functions) l.name ≡ spec.function_named l.functions l.name
