-- What the rest gives from here is what all give from the beginning.
use Rattle.std.proofs.Common.{◌≡◌, drop, map}
use Rattle.sc_check_initial.specs.Lists.{item, items}
use Rattle.sc_check_initial.proofs.lists.+lists.Given as goal

abbrev pub invariant-put_items-loop-i : goal.invariant-put_items-loop-i
invariant-put_items-loop-i l = items (map item (drop l.i l.items)) (l.fill, l.st) ≡ items (map item l.items) (l.fn.fill, l.fn.st)
