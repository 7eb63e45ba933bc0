use Rattle.std.proofs.Common.{◌≡◌, ◌-◌, ◌++◌}
use Rattle.sc_gen_code.specs.Calls as spec
use Rattle.sc_gen_code.proofs.calls.outgoing.Given as goal

abbrev pub invariant-loop-i : goal.invariant-loop-i
invariant-loop-i l = l.code ++ spec.outgoing l.base l.i (l.last - l.i) ≡ l.initial.code ++ spec.outgoing l.base 8 (l.last - 8)
