use Rattle.std.proofs.Common.{◌≡◌, ◌++◌, drop}
use Rattle.sc_check_linkage.specs.Births.{born_from, born}
use Rattle.sc_check_linkage.proofs.births.born.Given as goal

abbrev pub invariant-loop-n : goal.invariant-loop-n
invariant-loop-n l = (l.ids ++ born_from l.home l.literals l.links l.n (drop l.n l.noted)) ≡ born l.home l.literals l.links l.noted
