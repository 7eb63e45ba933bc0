use Rattle.std.proofs.Common.{◌≡◌, take}
use Rattle.sc_incr.specs.Literals.{literals_at_home}
use Rattle.sc_incr.proofs.literals.literals_at_home.Given as goal

abbrev pub invariant-loop-entry : goal.invariant-loop-entry
invariant-loop-entry l = l.literals.items ≡ literals_at_home l.home (take l.entry-index l.entries)
