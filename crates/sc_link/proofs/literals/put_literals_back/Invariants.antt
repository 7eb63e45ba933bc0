use Rattle.std.proofs.Common.{◌+◌, ◌≤◌, length, reverse}
use Rattle.sc_isa_image.specs.declared.image.Image.{Image}
use Rattle.sc_isa_image.specs.Lookups.{literal_room}
use Rattle.sc_link.specs.Steps.{AreLiteralsFree, PutsLiterals}
use Rattle.sc_link.proofs.literals.put_literals_back.Given as goal

abbrev pub invariant-putting : goal.invariant-putting
invariant-putting l = record {
  later : (f : Image) → PutsLiterals (reverse l.literals) l.image f → PutsLiterals (reverse l.initial.literals) l.initial.image f;
  room : length l.literals ≤ literal_room l.image;
  free : AreLiteralsFree (reverse l.literals) l.image;
}

abbrev pub decreases-putting : goal.decreases-putting
decreases-putting l = length l.literals
