use Rattle.std.proofs.Common.{◌≡◌, ◌-◌}
use Rattle.sc_meaning.specs.Classes as spec
use Rattle.sc_lib_bytes.proofs.heap.class_of.Given as goal

abbrev pub invariant-loop-k : goal.invariant-loop-k
invariant-loop-k l = spec.class_from (29 - l.k) l.k l.n ≡ spec.class_of l.n
