use Rattle.std.proofs.Common.{◌≡◌, ◌++◌, flat_map, map, take}
use Rattle.sc_link.specs.Entries.{each, text_of}
use Rattle.sc_link.proofs.collect.add_all_texts.Given as goal

abbrev pub invariant-loop-frame : goal.invariant-loop-frame
invariant-loop-frame l = l.texts.items ≡ l.initial.texts.items ++ each (text_of l.entry) (take l.frame-index l.frame-items)
