use Rattle.std.proofs.Common.{◌≡◌, ◌++◌, replicate}
use Rattle.sc_gen.proofs.sections.put_zeros.Given as goal

abbrev pub invariant-loop-i : goal.invariant-loop-i
invariant-loop-i l = l.bytes.items ≡ l.initial.bytes.items ++ replicate l.i 0
