use Rattle.std.proofs.Common.{◌≡◌, [], map, replicate}
use Rattle.sc_objects.proofs.heap.Heap.new.Given as goal

abbrev pub invariant-loop : goal.invariant-loop
invariant-loop l = map (λ v. v.items) l.free.items ≡ replicate l.counter []
