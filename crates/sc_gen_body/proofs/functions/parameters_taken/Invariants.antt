use Rattle.std.proofs.Common.{◌≡◌, ◌++◌, drop}
use Rattle.sc_gen_body.specs.Functions as spec
use Rattle.sc_gen_body.proofs.functions.parameters_taken.Given as goal

abbrev pub invariant-loop-k : goal.invariant-loop-k
invariant-loop-k l =
    l.code ++ spec.parameters_taken l.cost l.parameters (drop l.k-index l.kept) ≡ l.initial.code ++ spec.parameters_taken l.cost l.parameters l.kept
