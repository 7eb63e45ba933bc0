use Rattle.std.proofs.Common.{take}
use Rattle.sc_unlink.specs.Taking.{ClearsJumps}
use Rattle.sc_unlink.proofs.stubs.clear_jumps.Given as goal

abbrev pub invariant-loop-jump : goal.invariant-loop-jump
invariant-loop-jump l = ClearsJumps (take l.jump-index l.jumps) l.initial.image l.image
