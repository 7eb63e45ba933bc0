use Rattle.std.proofs.Common.{◌≡◌, ◌++◌, flat_map, map, take}
use Rattle.sc_link.specs.Entries.{literals_of}
use Rattle.sc_link.proofs.collect.literals_in.Given as goal

abbrev pub invariant-loop-entry : goal.invariant-loop-entry
invariant-loop-entry l = l.literals.items ≡ flat_map literals_of (take l.entry-index l.placed)
