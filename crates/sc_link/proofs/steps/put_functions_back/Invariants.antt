use Rattle.std.proofs.Common.{◌+◌, ◌≤◌, length, reverse}
use Rattle.sc_isa_image.specs.declared.image.Image.{Image}
use Rattle.sc_isa_image.specs.Lookups.{function_room}
use Rattle.sc_link.specs.Steps.{AreNew, PutsFunctions, count_of}
use Rattle.sc_link.proofs.steps.put_functions_back.Given as goal

abbrev pub invariant-putting : goal.invariant-putting
invariant-putting l = record {
  later : (f : Image) → PutsFunctions (reverse l.keys) l.image f → PutsFunctions (reverse l.initial.keys) l.initial.image f;
  room : length l.keys ≤ function_room l.image;
  few : count_of l.image + length l.keys ≤ 65536;
  new : AreNew (reverse l.keys) l.image;
}

abbrev pub decreases-putting : goal.decreases-putting
decreases-putting l = length l.keys
