use Rattle.std.proofs.Common.{◌≡◌, ◌<◌, ◌^◌, drop}
use Rattle.sc_core_formed.specs.Frames.{block_end}
use Rattle.sc_core_formed.proofs.frames.block_end.Given as goal

-- what is to come decides
abbrev pub invariant-loop-x : goal.invariant-loop-x
invariant-loop-x l = (block_end l.structs l.at (drop l.x-index l.block) ≡ block_end l.structs l.from l.block) × (l.at < 2 ^ 40)
