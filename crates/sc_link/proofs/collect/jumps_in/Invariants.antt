use Rattle.std.proofs.Common.{◌≡◌, ◌++◌, flat_map, map, take}
use Rattle.sc_link.specs.Entries.{jumps_if}
use Rattle.sc_link.proofs.collect.jumps_in.Given as goal

abbrev pub invariant-loop-entry : goal.invariant-loop-entry
invariant-loop-entry l = l.jumps.items ≡ flat_map jumps_if (take l.entry-index l.placed)
