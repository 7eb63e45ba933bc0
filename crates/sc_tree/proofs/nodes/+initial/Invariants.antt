-- The total so far is the sum over the elements that were seen.
use Rattle.std.proofs.Common.{◌≡◌, sum_by, take}
use Rattle.sc_tree.specs.Nodes.{initializer_nodes}
use Rattle.sc_tree.proofs.nodes.+initial.Given as goal

abbrev pub invariant-of_initializers-loop-i : goal.invariant-of_initializers-loop-i
invariant-of_initializers-loop-i l = l.total ≡ sum_by initializer_nodes (take l.i-index l.items)
