use Rattle.std.proofs.Common.{◌≡◌, map, drop}
use Rattle.sc_core_formed.specs.Names.{value_eq, are_new, distinct}
use Rattle.sc_core_formed.proofs.statements.are_distinct.Given as goal

-- what is to come decides
abbrev pub invariant-loop-l : goal.invariant-loop-l
invariant-loop-l l = are_new value_eq l.values.keys (map (λ k. k.value) (drop l.l-index l.labels)) ≡ distinct value_eq (map (λ k. k.value) l.labels)
