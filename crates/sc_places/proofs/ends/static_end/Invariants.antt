use Rattle.std.proofs.Common.{◌≡◌, ◌≤◌, length}
use Rattle.sc_places.specs.Layout.{static_end}
use Rattle.sc_places.proofs.ends.static_end.Given as goal

abbrev pub invariant-placing : goal.invariant-placing
invariant-placing l = (static_end l.end l.left l.keeps ≡ static_end l.initial.end l.sections l.kept) × (l.end ≤ 0x08100000)

abbrev pub decreases-placing : goal.decreases-placing
decreases-placing l = length l.left
