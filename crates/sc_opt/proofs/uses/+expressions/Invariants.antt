use Rattle.std.proofs.Common.{◌≡◌, fold, map, drop}
use Rattle.sc_opt.specs.Uses.{use_of, beside, all}
use Rattle.sc_opt.proofs.uses.+expressions.Given as goal

-- what is to come stands beside what was seen
abbrev pub invariant-uses_of-loop-e : goal.invariant-uses_of-loop-e
invariant-uses_of-loop-e l = fold beside l.all (map (use_of l.x) (drop l.e-index l.es)) ≡ all (map (use_of l.x) l.es)
