use Rattle.std.proofs.Common.{◌≡◌, drop}
use Rattle.sc_core_formed.specs.Open.{numbers}
use Rattle.sc_core_formed.specs.Statements.{all_of}
use Rattle.sc_core_formed.proofs.statements.+statement.Given as goal

-- what is to come decides
abbrev pub invariant-statements-loop-s : goal.invariant-statements-loop-s
invariant-statements-loop-s l =
    all_of l.m.core.now l.f l.targets (drop l.s-index l.items) (numbers l.around) l.body l.at ≡ all_of l.m.core.now l.f l.targets l.items (numbers l.around) l.body l.next
