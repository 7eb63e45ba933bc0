-- What the rest gives from here is what all give from the beginning.
use Rattle.std.proofs.Common.{◌≡◌, drop, map}
use Rattle.sc_check_initial.specs.Lists.{item, all_typed}
use Rattle.sc_check_initial.proofs.tree.+typed.Given as goal

abbrev pub invariant-all_typed-loop-item : goal.invariant-all_typed-loop-item
invariant-all_typed-loop-item l = all_typed (map item (drop l.item-index l.items)) l.st ≡ all_typed (map item l.items) l.fn.st
