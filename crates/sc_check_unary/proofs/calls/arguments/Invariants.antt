use Rattle.std.proofs.Common.{◌≡◌, [], drop}
use Rattle.sc_check_unary.specs.Calls.{arguments}
use Rattle.sc_check_unary.proofs.calls.arguments.Given as goal

-- what the rest gives from here is what all give from the beginning
abbrev pub invariant-loop-i : goal.invariant-loop-i
invariant-loop-i l = arguments l.structs l.line l.params l.i l.done (drop l.i l.args) ≡ arguments l.structs l.line l.params 0 [] l.args
