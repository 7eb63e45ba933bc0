use Rattle.std.proofs.Common.{◌≡◌, drop}
use Rattle.sc_core_names.specs.Scopes as spec
use Rattle.sc_core_names.proofs.search.entity_until.Given as goal

abbrev pub invariant-loop-d : goal.invariant-loop-d
invariant-loop-d l = spec.entity_until l.last (drop l.d-index l.scope) l.name ≡ spec.entity_until l.last l.scope l.name
