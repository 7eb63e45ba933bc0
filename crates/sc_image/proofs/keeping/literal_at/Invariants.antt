use Rattle.std.proofs.Common.{◌≡◌, length}
use Rattle.sc_isa_image.specs.Literals.{literal_of}
use Rattle.sc_link.specs.Linked.{literal_place}
use Rattle.sc_image.proofs.keeping.literal_at.Given as goal

abbrev pub invariant-looking : goal.invariant-looking
invariant-looking l = literal_place l.left (literal_of l.home l.bytes) ≡ literal_place l.literals (literal_of l.home l.bytes)

abbrev pub decreases-looking : goal.decreases-looking
decreases-looking l = length l.left
