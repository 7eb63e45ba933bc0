use Rattle.std.proofs.Common.{ℕ, ◌<◌, ◌≤◌}
use Rattle.sc_objects.specs.Blocks.{block_size}
use Rattle.sc_objects.proofs.heap.class_of.Given as goal

abbrev pub invariant-loop-k : goal.invariant-loop-k
invariant-loop-k l = (j : ℕ) → j < l.k → block_size j ≤ l.n
