use Rattle.std.proofs.Common.{◌≡◌, ◌++◌, drop, map}
use Rattle.sc_core_labels.specs.Targets as spec
use Rattle.sc_core_labels.proofs.labels.put_list.Given as goal

-- what is found and what is to come
abbrev pub invariant-loop-l : goal.invariant-loop-l
invariant-loop-l l = l.found.items ++ map (spec.target l.block) (drop l.l-index l.labels) ≡ l.fn.found.items ++ map (spec.target l.block) l.labels
