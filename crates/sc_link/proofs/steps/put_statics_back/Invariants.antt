use Rattle.std.proofs.Common.{◌+◌, ◌≤◌, length, reverse}
use Rattle.sc_isa_image.specs.declared.image.Image.{Image}
use Rattle.sc_isa_image.specs.Lookups.{value_room}
use Rattle.sc_link.specs.Steps.{PutsStatics}
use Rattle.sc_link.proofs.steps.put_statics_back.Given as goal

abbrev pub invariant-putting : goal.invariant-putting
invariant-putting l = record {
  later : (f : Image) → PutsStatics (reverse l.statics) l.image f → PutsStatics (reverse l.initial.statics) l.initial.image f;
  room : length l.statics ≤ value_room l.image;
}

abbrev pub decreases-putting : goal.decreases-putting
decreases-putting l = length l.statics
