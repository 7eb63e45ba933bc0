-- The total so far is the sum over the elements that were seen.
use Rattle.std.proofs.Common.{◌≡◌, ◌+◌, sum_by, take}
use Rattle.sc_tree.specs.Nodes.{expression_nodes, word_nodes, member_nodes, enumerator_nodes, declarator_nodes, derivation_nodes, parameter_nodes}
use Rattle.sc_tree.proofs.nodes.+nodes.Given as goal

abbrev pub invariant-of_arguments-loop-e : goal.invariant-of_arguments-loop-e
invariant-of_arguments-loop-e l = l.total ≡ sum_by expression_nodes (take l.e-index l.args)

abbrev pub invariant-of_specifiers-loop-word : goal.invariant-of_specifiers-loop-word
invariant-of_specifiers-loop-word l = l.total ≡ 1 + sum_by word_nodes (take l.word-index l.word-items)

abbrev pub invariant-of_members-loop-m : goal.invariant-of_members-loop-m
invariant-of_members-loop-m l = l.total ≡ sum_by member_nodes (take l.m-index l.members)

abbrev pub invariant-of_enumerators-loop-item : goal.invariant-of_enumerators-loop-item
invariant-of_enumerators-loop-item l = l.total ≡ sum_by enumerator_nodes (take l.item-index l.items)

abbrev pub invariant-of_declarators-loop-d : goal.invariant-of_declarators-loop-d
invariant-of_declarators-loop-d l = l.total ≡ sum_by declarator_nodes (take l.d-index l.declarators)

abbrev pub invariant-of_declarator-loop-step : goal.invariant-of_declarator-loop-step
invariant-of_declarator-loop-step l = l.total ≡ 1 + sum_by derivation_nodes (take l.step-index l.step-items)

abbrev pub invariant-of_parameters-loop-p : goal.invariant-of_parameters-loop-p
invariant-of_parameters-loop-p l = l.total ≡ sum_by parameter_nodes (take l.p-index l.parameters)
