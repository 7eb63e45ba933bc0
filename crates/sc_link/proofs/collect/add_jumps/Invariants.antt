use Rattle.std.proofs.Common.{◌≡◌, ◌++◌, flat_map, map, take}
use Rattle.sc_link.specs.Entries.{start_of}
use Rattle.sc_link.proofs.collect.add_jumps.Given as goal

abbrev pub invariant-loop-text : goal.invariant-loop-text
invariant-loop-text l = l.jumps.items ≡ l.initial.jumps.items ++ map start_of (take l.text-index l.text-items)
