use Rattle.std.proofs.Common.{◌≡◌, length}
use Rattle.std.specs.Prelude.{reverse}
use Rattle.sc_services.specs.Blocks as spec
use Rattle.sc_services.proofs.leaving.close_up_to.Given as goal

abbrev pub invariant-closing : goal.invariant-closing
invariant-closing l = spec.closed_upto l.block (reverse l.blocks) l.world ≡ spec.block_left l.block l.fn.world

abbrev pub decreases-closing : goal.decreases-closing
decreases-closing l = length l.blocks
