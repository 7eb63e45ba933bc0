-- What the rest gives from here is what all give from the beginning.
use Rattle.std.proofs.Common.{◌≡◌, [], None, drop, map}
use Rattle.sc_check_scope.specs.Steps.{each}
use Rattle.sc_check_scope.specs.Words.{no_words}
use Rattle.sc_check_expr.specs.Typed.{node, wording, declaring, membering, parametering, stepping, enumerating, one, one_argument, one_word, one_step, one_member, one_enumerator, no_parameters}
use Rattle.sc_check_expr.proofs.check.+check.Given as goal

abbrev pub invariant-arguments-loop-e : goal.invariant-arguments-loop-e
invariant-arguments-loop-e l = each one_argument (map node (drop l.e-index l.args)) l.done l.st ≡ each one_argument (map node l.args) [] l.fn.st

abbrev pub invariant-specifiers-loop-w : goal.invariant-specifiers-loop-w
invariant-specifiers-loop-w l = each one_word (map wording (drop l.w-index l.w-items)) l.words l.st ≡ each one_word (map wording l.w-items) no_words l.fn.st

abbrev pub invariant-members-loop-m : goal.invariant-members-loop-m
invariant-members-loop-m l = each one (map membering (drop l.m-index l.list)) l.done l.st ≡ each one (map membering l.list) [] l.fn.st

abbrev pub invariant-members_of-loop-d : goal.invariant-members_of-loop-d
invariant-members_of-loop-d l = each (one_member l.base) (map declaring (drop l.d-index l.list)) l.done l.st ≡ each (one_member l.base) (map declaring l.list) l.fn.done l.fn.st

abbrev pub invariant-enumerators-loop-item : goal.invariant-enumerators-loop-item
invariant-enumerators-loop-item l = each one_enumerator (map enumerating (drop l.item-index l.list)) l.before l.st ≡ each one_enumerator (map enumerating l.list) None l.fn.st

abbrev pub invariant-declarator-loop-x : goal.invariant-declarator-loop-x
invariant-declarator-loop-x l =
    each (one_step l.d.line) (map stepping (drop l.x-index l.x-items)) l.steps l.st ≡ each (one_step l.d.line) (map stepping l.x-items) [] l.fn.st

abbrev pub invariant-parameters-loop-p : goal.invariant-parameters-loop-p
invariant-parameters-loop-p l = each one (map parametering (drop l.p-index l.list)) l.done l.st ≡ each one (map parametering l.list) no_parameters l.fn.st
