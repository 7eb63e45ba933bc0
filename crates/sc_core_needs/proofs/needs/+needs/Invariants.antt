use Rattle.std.proofs.Common.{◌≡◌, ◌+◌, map, drop}
use Rattle.sc_core_needs.specs.Needs.{need, beside, in_order}
use Rattle.sc_core_needs.proofs.needs.+needs.Given as goal

-- what is to come stands beside what was seen
abbrev pub invariant-arguments-loop-i : goal.invariant-arguments-loop-i
invariant-arguments-loop-i l = beside l.most (in_order (l.i + 1) (map need (drop l.i l.args))) ≡ in_order 1 (map need l.args)
