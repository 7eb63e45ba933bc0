use Rattle.std.proofs.Common.{◌≡◌, map, drop}
use Rattle.sc_core_needs.specs.Needs.{need_of_statement, beside, all}
use Rattle.sc_core_needs.proofs.needs.+statement.Given as goal

-- what is to come stands beside what was seen
abbrev pub invariant-statements-loop-s : goal.invariant-statements-loop-s
invariant-statements-loop-s l = beside l.most (all (map need_of_statement (drop l.s-index l.items))) ≡ all (map need_of_statement l.items)
