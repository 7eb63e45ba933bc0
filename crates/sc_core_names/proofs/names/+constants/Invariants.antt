use Rattle.std.proofs.Common.{◌≡◌, ◌++◌, drop, map}
use Rattle.sc_core_names.specs.Names as spec
use Rattle.sc_core_names.proofs.names.+constants.Given as goal

abbrev pub invariant-put_members-loop-m : goal.invariant-put_members-loop-m
invariant-put_members-loop-m l =
    l.names.items ++ spec.joined (map spec.constants_of_member (drop l.m-index l.members)) ≡ l.fn.names.items ++ spec.joined (map spec.constants_of_member l.members)

abbrev pub invariant-put_specifiers-loop-word : goal.invariant-put_specifiers-loop-word
invariant-put_specifiers-loop-word l =
    l.names.items ++ spec.joined (map spec.constants_of_word (drop l.word-index l.word-items)) ≡ l.fn.names.items ++ spec.constants_of l.fn.list
