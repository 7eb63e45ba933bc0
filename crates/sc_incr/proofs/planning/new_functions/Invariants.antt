use Rattle.std.proofs.Common.{◌≡◌, take}
use Rattle.sc_incr.specs.Modules.{new_functions}
use Rattle.sc_incr.proofs.planning.new_functions.Given as goal

abbrev pub invariant-loop-key : goal.invariant-loop-key
invariant-loop-key l = l.new.items ≡ new_functions l.funs (take l.key-index l.functions)
