-- The total so far is the sum over the elements that were seen.
use Rattle.std.proofs.Common.{◌≡◌, sum_by, take}
use Rattle.sc_tree.specs.Nodes.{declaration_nodes}
use Rattle.sc_tree.proofs.nodes.of_declarations.Given as goal

abbrev pub invariant-loop-d : goal.invariant-loop-d
invariant-loop-d l = l.total ≡ sum_by declaration_nodes (take l.d-index l.declarations)
