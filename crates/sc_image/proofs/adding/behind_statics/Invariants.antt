use Rattle.std.proofs.Common.{◌≡◌, length}
use Rattle.std.specs.Prelude.{max}
use Rattle.sc_places.specs.Layout.{behind_statics}
use Rattle.sc_image.proofs.adding.behind_statics.Given as goal

abbrev pub invariant-looking : goal.invariant-looking
invariant-looking l = max l.top (behind_statics l.left) ≡ behind_statics l.list

abbrev pub decreases-looking : goal.decreases-looking
decreases-looking l = length l.left
