use Rattle.std.proofs.Common.{◌≡◌, drop, map}
use Rattle.sc_core_formed.specs.Known.{all, is_below}
use Rattle.sc_core_formed.proofs.known.+types.Given as goal

-- what is to come decides
abbrev pub invariant-all_below-loop-of : goal.invariant-all_below-loop-of
invariant-all_below-loop-of l = all (map (is_below l.count) (drop l.of-index l.types)) ≡ all (map (is_below l.count) l.types)
