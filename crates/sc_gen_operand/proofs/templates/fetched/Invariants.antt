use Rattle.std.proofs.Common.{◌≡◌, ◌++◌, drop}
use Rattle.sc_gen_operand.specs.Templates as spec
use Rattle.sc_gen_operand.proofs.templates.fetched.Given as goal

abbrev pub invariant-loop-i : goal.invariant-loop-i
invariant-loop-i l =
    l.code ++ spec.fetched_from l.scope.style.now l.scope.slots.now l.from l.i (drop l.i l.args)
    ≡ l.initial.code ++ spec.fetched_from l.scope.style.now l.scope.slots.now l.from 0 l.args
