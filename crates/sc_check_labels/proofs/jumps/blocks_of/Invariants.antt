use Rattle.std.proofs.Common.{◌≡◌, map, take}
use Rattle.sc_check_labels.proofs.jumps.blocks_of.Given as goal

-- the blocks so far
abbrev pub invariant-loop-list : goal.invariant-loop-list
invariant-loop-list l = l.blocks ≡ map (λ x. x.block) (take l.list-index l.lists)
