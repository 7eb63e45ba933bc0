use Rattle.std.proofs.Common.{◌≡◌, drop, map}
use Rattle.std.specs.Prelude.{nat_eq}
use Rattle.sc_image.specs.Distinct.{are_new, distinct}
use Rattle.sc_image.proofs.distinct.are_places_distinct.Given as goal

-- what is to come decides
abbrev pub invariant-loop-literal : goal.invariant-loop-literal
invariant-loop-literal l = are_new nat_eq l.seen.keys (map (λ x. x.at) (drop l.literal-index l.literals)) ≡ distinct nat_eq (map (λ x. x.at) l.literals)
