use Rattle.std.proofs.Common.{◌≡◌, length}
use Rattle.sc_image.specs.OnePlace.{agrees_with}
use Rattle.sc_image.proofs.one_place.agrees_with.Given as goal

abbrev pub invariant-comparing : goal.invariant-comparing
invariant-comparing l = agrees_with l.left l.x ≡ agrees_with l.literals l.x

abbrev pub decreases-comparing : goal.decreases-comparing
decreases-comparing l = length l.left
