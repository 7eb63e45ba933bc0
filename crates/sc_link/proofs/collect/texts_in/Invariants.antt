use Rattle.std.proofs.Common.{◌≡◌, ◌++◌, flat_map, map, take}
use Rattle.sc_link.specs.Entries.{texts_if}
use Rattle.sc_link.proofs.collect.texts_in.Given as goal

abbrev pub invariant-loop-entry : goal.invariant-loop-entry
invariant-loop-entry l = l.texts.items ≡ flat_map texts_if (take l.entry-index l.placed)
