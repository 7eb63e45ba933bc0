use Rattle.std.proofs.Common.{◌≡◌, sum_by, take}
use Rattle.sc_core_names.specs.Scopes as spec
use Rattle.sc_core_names.proofs.search.statics_named.Given as goal

abbrev pub invariant-loop-scope : goal.invariant-loop-scope
invariant-loop-scope l = l.total ≡ sum_by (spec.statics_in l.name) (take l.scope-index l.scopes)
