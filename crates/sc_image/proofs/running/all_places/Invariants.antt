use Rattle.std.proofs.Common.{◌≡◌, map, take, Some}
use Rattle.sc_image.proofs.running.all_places.Given as goal

abbrev pub invariant-loop-place : goal.invariant-loop-place
invariant-loop-place l = l.keeps.items ≡ map Some (take l.place-index l.places)
