use Rattle.std.proofs.Common.{◌≡◌, drop}
use Rattle.sc_core_needs.specs.Nodes.{arguments}
use Rattle.sc_core_needs.proofs.nodes.arguments.Given as goal

-- what the rest gives from here is what all give from the beginning
abbrev pub invariant-loop-i : goal.invariant-loop-i
invariant-loop-i l = arguments l.structs l.params l.i (drop l.i l.args) ≡ arguments l.structs l.params 0 l.args
