use Rattle.std.proofs.Common.{◌≡◌, sum_by, take}
use Rattle.sc_core_names.specs.Scopes as spec
use Rattle.sc_core_names.proofs.search.statics_in.Given as goal

abbrev pub invariant-loop-d : goal.invariant-loop-d
invariant-loop-d l = l.total ≡ sum_by (spec.one_static l.name) (take l.d-index l.scope)
