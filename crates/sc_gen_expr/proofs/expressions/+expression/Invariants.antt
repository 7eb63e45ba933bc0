use Rattle.std.proofs.Common.{◌≡◌, ◌-◌, ◌++◌, map, drop}
use Rattle.sc_gen_expr.specs.Expressions.{part_of}
use Rattle.sc_gen_expr.proofs.Waiting.{from}
use Rattle.sc_gen_expr.proofs.expressions.+expression.Given as goal

-- what is to come stands behind what is there
abbrev pub invariant-arguments-loop-i : goal.invariant-arguments-loop-i
invariant-arguments-loop-i l =
    l.code ++ from l.i (l.n - l.i) (map (part_of l.scope.style.now l.scope.slots.now) (drop l.i l.args)) (drop l.i l.args) l.own
    ≡ l.initial.code ++ from 0 l.n (map (part_of l.scope.style.now l.scope.slots.now) l.args) l.args l.fn.t
