use Rattle.std.proofs.Common.{◌≡◌, ◌++◌, drop, map}
use Rattle.sc_core_names.specs.Names as spec
use Rattle.sc_core_names.proofs.names.put_declarators.Given as goal

abbrev pub invariant-loop-d : goal.invariant-loop-d
invariant-loop-d l =
    l.names.items ++ spec.joined (map (spec.name_of l.entity) (drop l.d-index l.declarators)) ≡ l.fn.names.items ++ spec.joined (map (spec.name_of l.entity) l.declarators)
