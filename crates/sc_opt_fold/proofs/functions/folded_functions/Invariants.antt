use Rattle.std.proofs.Common.{◌≡◌, ◌++◌, drop, map}
use Rattle.sc_opt_fold.specs.Folded.{folded_function}
use Rattle.sc_opt_fold.proofs.functions.folded_functions.Given as goal

abbrev pub invariant-loop-f : goal.invariant-loop-f
invariant-loop-f l = l.all ++ map folded_function (drop l.f-index l.funs) ≡ map folded_function l.funs
