use Rattle.std.proofs.Common.{◌≡◌, ◌++◌, drop, map}
use Rattle.sc_core_names.specs.Names as spec
use Rattle.sc_core_names.proofs.names.put_constants.Given as goal

abbrev pub invariant-loop-item : goal.invariant-loop-item
invariant-loop-item l = l.names.items ++ map spec.constant (drop l.item-index l.items) ≡ l.fn.names.items ++ map spec.constant l.items
