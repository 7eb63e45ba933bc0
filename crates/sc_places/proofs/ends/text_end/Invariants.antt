use Rattle.std.proofs.Common.{◌≡◌, ◌≤◌, length}
use Rattle.sc_places.specs.Layout.{text_end}
use Rattle.sc_places.proofs.ends.text_end.Given as goal

abbrev pub invariant-placing : goal.invariant-placing
invariant-placing l = (text_end l.object l.end l.left ≡ text_end l.object l.initial.end l.sections) × (l.end ≤ 0x04100000)

abbrev pub decreases-placing : goal.decreases-placing
decreases-placing l = length l.left
