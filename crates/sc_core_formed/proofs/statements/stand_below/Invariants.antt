use Rattle.std.proofs.Common.{◌≡◌, drop}
use Rattle.sc_core_formed.specs.Statements.{stand_below}
use Rattle.sc_core_formed.proofs.statements.stand_below.Given as goal

-- what is to come decides
abbrev pub invariant-loop-l : goal.invariant-loop-l
invariant-loop-l l = stand_below l.n (drop l.l-index l.labels) ≡ stand_below l.n l.labels
