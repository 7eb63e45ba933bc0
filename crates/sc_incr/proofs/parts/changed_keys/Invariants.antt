use Rattle.std.proofs.Common.{◌≡◌, ◌++◌, map, take}
use Rattle.sc_incr.specs.Parts.{key_of_pair}
use Rattle.sc_incr.proofs.parts.changed_keys.Given as goal

abbrev pub invariant-loop-object : goal.invariant-loop-object
invariant-loop-object l = l.keys.items ≡ l.functions ++ map key_of_pair (take l.object-index l.statics)
