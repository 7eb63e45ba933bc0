use Rattle.std.proofs.Common.{◌≡◌, length}
use Rattle.sc_link.specs.Linked.{place_in}
use Rattle.sc_image.proofs.keeping.static_at.Given as goal

abbrev pub invariant-looking : goal.invariant-looking
invariant-looking l = place_in l.left l.key ≡ place_in l.statics l.key

abbrev pub decreases-looking : goal.decreases-looking
decreases-looking l = length l.left
