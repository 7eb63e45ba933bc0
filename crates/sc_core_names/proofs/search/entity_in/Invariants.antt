use Rattle.std.proofs.Common.{◌≡◌, drop}
use Rattle.sc_core_names.specs.Scopes as spec
use Rattle.sc_core_names.proofs.search.entity_in.Given as goal

abbrev pub invariant-loop-d : goal.invariant-loop-d
invariant-loop-d l = spec.entity_in (drop l.d-index l.scope) l.name ≡ spec.entity_in l.scope l.name
