use Rattle.std.proofs.Common.{◌≡◌, flat_map, take}
use Rattle.sc_mixed.specs.Changing.{kept_of}
use Rattle.sc_mixed.proofs.change.kept_keys.Given as goal

abbrev pub invariant-loop-id : goal.invariant-loop-id
invariant-loop-id l = l.kept ≡ flat_map (kept_of l.old l.new) (take l.id-index l.id-items)
