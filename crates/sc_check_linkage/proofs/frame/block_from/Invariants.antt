use Rattle.std.proofs.Common.{◌≡◌, ◌+◌, ◌++◌, drop}
use Rattle.sc_check_linkage.specs.Frames.{block_bytes, block_from}
use Rattle.sc_check_linkage.proofs.frame.block_from.Given as goal

abbrev pub invariant-loop-local : goal.invariant-loop-local
invariant-loop-local l =
    (l.at + block_bytes (drop l.local-index l.block) ≡ l.from + block_bytes l.block)
    × ((l.all ++ block_from l.at (drop l.local-index l.block)) ≡ block_from l.from l.block)
