use Rattle.std.proofs.Common.{◌≡◌, ◌++◌, take}
use Rattle.std.specs.Prelude.{flat_map}
use Rattle.sc_object.specs.Parts.{slot_words}
use Rattle.sc_elf_write.proofs.frames.put_block.Given as goal

abbrev pub invariant-loop-slot : goal.invariant-loop-slot
invariant-loop-slot l = l.bytes.items ≡ l.initial.bytes.items ++ flat_map slot_words (take l.slot-index l.b.slots)
