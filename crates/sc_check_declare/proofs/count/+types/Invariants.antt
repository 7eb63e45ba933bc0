use Rattle.std.proofs.Common.{◌≡◌, ◌-◌, drop, map}
use Rattle.sc_check_declare.specs.Counts.{sum, types_in}
use Rattle.sc_check_declare.proofs.count.+types.Given as goal

-- what is to come is taken from what is left
abbrev pub invariant-less_all-loop-of : goal.invariant-less_all-loop-of
invariant-less_all-loop-of l = l.left - sum (map types_in (drop l.of-index l.types)) ≡ l.fn.left - sum (map types_in l.types)
