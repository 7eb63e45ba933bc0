use Rattle.std.proofs.Common.{◌≡◌, drop}
use Rattle.sc_image.specs.Ordered.{are_ordered}
use Rattle.sc_image.proofs.ordered.are_ordered.Given as goal

-- what is to come decides
abbrev pub invariant-loop-text : goal.invariant-loop-text
invariant-loop-text l = are_ordered l.end (drop l.text-index l.texts) ≡ are_ordered 0 l.texts
