use Rattle.std.proofs.Common.{◌≡◌, map, take, Some}
use Rattle.sc_incr.proofs.forming.kept_places.Given as goal

abbrev pub invariant-loop-place : goal.invariant-loop-place
invariant-loop-place l = l.kept.items ≡ map Some (take l.place-index l.places)
