use Rattle.std.proofs.Common.{◌≡◌, ◌++◌, length}
use Rattle.sc_check_declare.proofs.space.NameSpace.put_scope.Given as goal

-- what is to come, in front of what is there
abbrev pub invariant-loop-name : goal.invariant-loop-name
invariant-loop-name g l = l.rows ++ l.self ≡ l.fn.rows ++ l.fn.self

abbrev pub decreases-loop-name : goal.decreases-loop-name
decreases-loop-name g l = length l.rows
