use Rattle.std.proofs.Common.{◌≡◌, drop}
use Rattle.sc_services.specs.Frames as spec
use Rattle.sc_services.proofs.frames.is_among.Given as goal

abbrev pub invariant-loop-born : goal.invariant-loop-born
invariant-loop-born l = spec.is_open l.block (drop l.born-index l.blocks) ≡ spec.is_open l.block l.blocks
