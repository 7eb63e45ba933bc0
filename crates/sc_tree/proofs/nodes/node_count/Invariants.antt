-- The total so far is the sum over the elements that were seen.
use Rattle.std.proofs.Common.{◌≡◌, sum_by, take}
use Rattle.sc_tree.specs.Nodes.{external_nodes}
use Rattle.sc_tree.proofs.nodes.node_count.Given as goal

abbrev pub invariant-loop-item : goal.invariant-loop-item
invariant-loop-item l = l.total ≡ sum_by external_nodes (take l.item-index l.item-items)
