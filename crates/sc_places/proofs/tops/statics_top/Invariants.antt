use Rattle.std.proofs.Common.{◌≡◌, length}
use Rattle.std.specs.Prelude.{max}
use Rattle.sc_places.specs.Layout.{static_reach, top_of}
use Rattle.sc_places.proofs.tops.statics_top.Given as goal

abbrev pub invariant-looking : goal.invariant-looking
invariant-looking l = max l.top (top_of static_reach l.left l.at) ≡ top_of static_reach l.sections l.places

abbrev pub decreases-looking : goal.decreases-looking
decreases-looking l = length l.left
