use Rattle.std.proofs.Common.{◌≡◌, ◌++◌, take}
use Rattle.std.specs.Prelude.{flat_map}
use Rattle.sc_object.specs.Parts.{frame_words}
use Rattle.sc_elf_write.proofs.frames.put_frames.Given as goal

abbrev pub invariant-loop-frame : goal.invariant-loop-frame
invariant-loop-frame l = l.bytes.items ≡ l.initial.bytes.items ++ flat_map (frame_words l.version) (take l.frame-index l.frames)
