use Rattle.std.proofs.Common.{◌≡◌, fold, map, drop}
use Rattle.sc_opt.specs.Uses.{use_of_statement, beside, all}
use Rattle.sc_opt.proofs.uses.+statements.Given as goal

-- what is to come stands beside what was seen
abbrev pub invariant-uses_of_statements-loop-s : goal.invariant-uses_of_statements-loop-s
invariant-uses_of_statements-loop-s l = fold beside l.all (map (use_of_statement l.x) (drop l.s-index l.items)) ≡ all (map (use_of_statement l.x) l.items)
