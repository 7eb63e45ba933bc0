use Rattle.std.proofs.Common.{◌≡◌, ◌++◌, drop, map}
use Rattle.sc_core_labels.specs.Targets as spec
use Rattle.sc_core_labels.proofs.labels.+statements.Given as goal

-- what is found and what is to come
abbrev pub invariant-put_statements-loop-s : goal.invariant-put_statements-loop-s
invariant-put_statements-loop-s l =
    l.found.items ++ spec.all_of (map spec.labels_of (drop l.s-index l.items)) ≡ l.fn.found.items ++ spec.all_of (map spec.labels_of l.items)
