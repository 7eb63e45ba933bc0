use Rattle.std.proofs.Common.{◌≡◌, drop}
use Rattle.sc_check_declare.specs.Words.{first_of}
use Rattle.sc_check_declare.proofs.words.first_of.Given as goal

abbrev pub invariant-loop-list : goal.invariant-loop-list
invariant-loop-list l = first_of (drop l.list-index l.lists) l.counts ≡ first_of l.lists l.counts
