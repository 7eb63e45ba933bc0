use Rattle.std.proofs.Common.{◌≡◌, drop}
use Rattle.sc_core_formed.specs.Open.{numbers}
use Rattle.sc_core_formed.specs.Expressions.{all_of}
use Rattle.sc_core_formed.proofs.expressions.+expression.Given as goal

-- what is to come decides
abbrev pub invariant-all-loop-arg : goal.invariant-all-loop-arg
invariant-all-loop-arg l = all_of l.m.core.now l.blocks (numbers l.around) (drop l.arg-index l.args) ≡ all_of l.m.core.now l.blocks (numbers l.around) l.args
