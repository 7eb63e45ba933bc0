use Rattle.std.proofs.Common.{◌≡◌, ◌++◌, take}
use Rattle.std.specs.Prelude.{flat_map}
use Rattle.sc_object.specs.Parts.{block_words}
use Rattle.sc_elf_write.proofs.frames.put_blocks.Given as goal

abbrev pub invariant-loop-block : goal.invariant-loop-block
invariant-loop-block l = l.bytes.items ≡ l.initial.bytes.items ++ flat_map (block_words l.version) (take l.block-index l.blocks)
