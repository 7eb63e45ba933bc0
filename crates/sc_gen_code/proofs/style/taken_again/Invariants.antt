use Rattle.std.proofs.Common.{◌≡◌, ◌++◌, drop}
use Rattle.sc_gen_code.specs.Styles as spec
use Rattle.sc_gen_code.proofs.style.taken_again.Given as goal

abbrev pub invariant-loop-k : goal.invariant-loop-k
invariant-loop-k l = l.code ++ spec.taken_again (drop l.k-index l.kept) ≡ l.initial.code ++ spec.taken_again l.kept
