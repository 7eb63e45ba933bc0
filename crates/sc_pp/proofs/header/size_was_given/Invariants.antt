use Rattle.std.proofs.Common.{◌≡◌, length}
use Rattle.std.specs.List.{list_any}
use Rattle.sc_pp.specs.Headers.{gives_size}
use Rattle.sc_pp.proofs.header.size_was_given.Given as goal

abbrev pub invariant-seen : goal.invariant-seen
invariant-seen l = list_any gives_size l.left ≡ list_any gives_size l.fn.seen

abbrev pub decreases-seen : goal.decreases-seen
decreases-seen l = length l.left
