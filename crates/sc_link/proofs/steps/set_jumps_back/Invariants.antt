use Rattle.std.proofs.Common.{◌+◌, ◌≤◌, length, reverse}
use Rattle.sc_isa_image.specs.declared.image.Image.{Image}
use Rattle.sc_link.specs.Steps.{AreStubs, SetsJumps}
use Rattle.sc_link.proofs.steps.set_jumps_back.Given as goal

abbrev pub invariant-setting : goal.invariant-setting
invariant-setting l = record {
  later : (f : Image) → SetsJumps l.jumps l.image f → SetsJumps l.initial.jumps l.initial.image f;
  stubs : AreStubs l.image;
}

abbrev pub decreases-setting : goal.decreases-setting
decreases-setting l = length l.jumps
