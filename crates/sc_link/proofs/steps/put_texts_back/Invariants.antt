use Rattle.std.proofs.Common.{◌+◌, ◌≤◌, length, reverse}
use Rattle.sc_isa_image.specs.declared.image.Image.{Image}
use Rattle.sc_isa_image.specs.Lookups.{text_room}
use Rattle.sc_link.specs.Steps.{AreFree, PutsTexts}
use Rattle.sc_link.proofs.steps.put_texts_back.Given as goal

abbrev pub invariant-putting : goal.invariant-putting
invariant-putting l = record {
  later : (f : Image) → PutsTexts l.texts l.image f → PutsTexts l.initial.texts l.initial.image f;
  room : length l.texts ≤ text_room l.image;
  free : AreFree l.texts l.image;
}

abbrev pub decreases-putting : goal.decreases-putting
decreases-putting l = length l.texts
