use Rattle.std.proofs.Common.{◌≡◌, length}
use Rattle.std.specs.List.{list_any}
use Rattle.sc_pp.specs.Headers.{same_header}
use Rattle.sc_pp.proofs.header.was_seen.Given as goal

abbrev pub invariant-seen : goal.invariant-seen
invariant-seen l = list_any (same_header l.header) l.left ≡ list_any (same_header l.header) l.fn.seen

abbrev pub decreases-seen : goal.decreases-seen
decreases-seen l = length l.left
