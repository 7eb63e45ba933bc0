use Rattle.std.proofs.Common.{◌≡◌, length}
use Rattle.std.specs.List.{list_all}
use Rattle.sc_image.specs.OnePlace.{agrees_with, all_agree}
use Rattle.sc_image.proofs.one_place.all_agree.Given as goal

abbrev pub invariant-comparing : goal.invariant-comparing
invariant-comparing l = list_all (agrees_with l.literals) l.left ≡ all_agree l.literals

abbrev pub decreases-comparing : goal.decreases-comparing
decreases-comparing l = length l.left
