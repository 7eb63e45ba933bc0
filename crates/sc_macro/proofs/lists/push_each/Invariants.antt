use Rattle.std.proofs.Common.{◌≡◌, ◌++◌, take}
use Rattle.sc_macro.proofs.lists.push_each.Given as goal

abbrev pub invariant-loop-item : goal.invariant-loop-item
invariant-loop-item g l = l.out ≡ l.fn.out ++ take l.item-index l.items
