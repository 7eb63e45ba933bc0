use Rattle.std.proofs.Common.{◌≡◌, length}
use Rattle.std.specs.Prelude.{max}
use Rattle.sc_places.specs.Layout.{text_reach, top_of}
use Rattle.sc_places.proofs.tops.texts_top.Given as goal

abbrev pub invariant-looking : goal.invariant-looking
invariant-looking l = max l.top (top_of text_reach l.left l.at) ≡ top_of text_reach l.sections l.places

abbrev pub decreases-looking : goal.decreases-looking
decreases-looking l = length l.left
