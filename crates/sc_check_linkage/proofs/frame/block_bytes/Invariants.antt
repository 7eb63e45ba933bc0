use Rattle.std.proofs.Common.{◌≡◌, ◌+◌, ◌≤◌, drop}
use Rattle.sc_check_linkage.specs.Frames.{block_bytes}
use Rattle.sc_check_linkage.proofs.frame.block_bytes.Given as goal

abbrev pub invariant-loop-local : goal.invariant-loop-local
invariant-loop-local l = (l.bytes + block_bytes (drop l.local-index l.block) ≡ l.before + block_bytes l.block) × (l.bytes ≤ 16777216)
