use Rattle.std.proofs.Common.{◌≡◌, ◌++◌, length}
use Rattle.sc_base.proofs.stack.Stack.push_all.Given as goal

-- what is taken from the list's end stands on the stack
abbrev pub invariant-putting : goal.invariant-putting
invariant-putting g l = l.items ++ l.self ≡ l.fn.items ++ l.fn.self

abbrev pub decreases-putting : goal.decreases-putting
decreases-putting g l = length l.items
