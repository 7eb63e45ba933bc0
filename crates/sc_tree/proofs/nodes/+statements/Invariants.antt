-- The total so far is the sum over the elements that were seen.
use Rattle.std.proofs.Common.{◌≡◌, sum_by, take}
use Rattle.sc_tree.specs.Nodes.{statement_nodes}
use Rattle.sc_tree.proofs.nodes.+statements.Given as goal

abbrev pub invariant-of_statements-loop-s : goal.invariant-of_statements-loop-s
invariant-of_statements-loop-s l = l.total ≡ sum_by statement_nodes (take l.s-index l.statements)
