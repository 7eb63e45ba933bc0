use Rattle.std.proofs.Common.{◌≡◌, ◌++◌, flat_map, map, take}
use Rattle.sc_link.specs.Entries.{statics_if}
use Rattle.sc_link.proofs.collect.statics_in.Given as goal

abbrev pub invariant-loop-entry : goal.invariant-loop-entry
invariant-loop-entry l = l.statics.items ≡ flat_map statics_if (take l.entry-index l.placed)
