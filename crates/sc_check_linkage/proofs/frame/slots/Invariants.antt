use Rattle.std.proofs.Common.{◌≡◌, ◌+◌, ◌≤◌, drop}
use Rattle.sc_check_linkage.specs.Frames.{slots}
use Rattle.sc_check_linkage.proofs.frame.slots.Given as goal

abbrev pub invariant-loop-block : goal.invariant-loop-block
invariant-loop-block l = (l.bytes + slots (drop l.block-index l.blocks) ≡ slots l.blocks) × (l.bytes ≤ 16777216)
