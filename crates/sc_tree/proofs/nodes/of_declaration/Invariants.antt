-- The total so far is the sum over the elements that were seen.
use Rattle.std.proofs.Common.{◌≡◌, ◌+◌, sum_by, take}
use Rattle.sc_tree.specs.Nodes.{init_declarator_nodes, specifiers_nodes}
use Rattle.sc_tree.proofs.nodes.of_declaration.Given as goal

abbrev pub invariant-loop-i : goal.invariant-loop-i
invariant-loop-i l = l.total ≡ specifiers_nodes l.d.specifiers + sum_by init_declarator_nodes (take l.i-index l.i-items)
