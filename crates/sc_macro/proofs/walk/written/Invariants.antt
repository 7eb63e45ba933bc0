use Rattle.std.proofs.Common.{◌≡◌, ◌++◌, length}
use Rattle.sc_macro.proofs.walk.written.Given as goal

abbrev pub invariant-writing : goal.invariant-writing
invariant-writing l = l.lists ++ l.waiting ≡ l.fn.arguments

abbrev pub decreases-writing : goal.decreases-writing
decreases-writing l = length l.waiting
