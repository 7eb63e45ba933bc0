use Rattle.std.proofs.Common.{◌≡◌, length}
use Rattle.std.specs.Prelude.{max}
use Rattle.sc_places.specs.Layout.{behind_texts}
use Rattle.sc_image.proofs.adding.behind_texts.Given as goal

abbrev pub invariant-looking : goal.invariant-looking
invariant-looking l = max l.top (behind_texts l.left) ≡ behind_texts l.list

abbrev pub decreases-looking : goal.decreases-looking
decreases-looking l = length l.left
