use Rattle.std.proofs.Common.{◌≡◌, take}
use Rattle.sc_base.proofs.items.ItemsDuplicate.copy.Given as goal

-- the copies so far are the items up to this one
abbrev pub invariant-loop-item : goal.invariant-loop-item
invariant-loop-item g l = l.items.items ≡ take l.item-index l.item-items
