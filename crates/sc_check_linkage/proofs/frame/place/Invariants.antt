use Rattle.std.proofs.Common.{◌≡◌, ◌+◌, ◌≤◌, ◌++◌, drop}
use Rattle.sc_check_linkage.specs.Frames.{slots, slots_begin, blocks_from}
use Rattle.sc_check_linkage.proofs.frame.place.Given as goal

abbrev pub invariant-loop-block : goal.invariant-loop-block
invariant-loop-block l =
    (l.at + slots (drop l.block-index l.blocks) ≤ 16777216)
    × ((l.all ++ blocks_from l.at (drop l.block-index l.blocks)) ≡ blocks_from (slots_begin l.room l.args) l.blocks)
