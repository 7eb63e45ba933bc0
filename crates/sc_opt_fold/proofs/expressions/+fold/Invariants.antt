use Rattle.std.proofs.Common.{◌≡◌, ◌++◌, drop, map}
use Rattle.sc_opt_fold.specs.Folded as spec
use Rattle.sc_opt_fold.proofs.expressions.+fold.Given as goal

abbrev pub invariant-fold_parts-loop-e : goal.invariant-fold_parts-loop-e
invariant-fold_parts-loop-e l = l.parts ++ map spec.folded (drop l.e-index l.es) ≡ map spec.folded l.es
