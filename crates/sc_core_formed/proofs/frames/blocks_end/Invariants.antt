use Rattle.std.proofs.Common.{◌≡◌, ◌<◌, ◌^◌, drop}
use Rattle.sc_core_formed.specs.Frames.{blocks_end}
use Rattle.sc_core_formed.proofs.frames.blocks_end.Given as goal

-- what is to come decides
abbrev pub invariant-loop-block : goal.invariant-loop-block
invariant-loop-block l = (blocks_end l.structs l.at (drop l.block-index l.blocks) ≡ blocks_end l.structs l.from l.blocks) × (l.at < 2 ^ 40)
