use Rattle.std.proofs.Common.{◌≡◌, ◌-◌, ◌++◌}
use Rattle.sc_gen_code.specs.Calls as spec
use Rattle.sc_gen_code.proofs.calls.incoming.Given as goal

abbrev pub invariant-loop-i : goal.invariant-loop-i
invariant-loop-i l = l.code ++ spec.incoming l.base l.i (l.count - l.i) ≡ l.initial.code ++ spec.incoming l.base 0 l.count
