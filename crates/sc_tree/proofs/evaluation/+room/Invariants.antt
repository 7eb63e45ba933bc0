-- The greatest so far is the room of the arguments that were seen, each with the operands before it.
use Rattle.std.proofs.Common.{◌≡◌, map, take}
use Rattle.sc_tree.specs.Room.{room_of, in_order}
use Rattle.sc_tree.proofs.evaluation.+room.Given as goal

abbrev pub invariant-arguments-loop-arg : goal.invariant-arguments-loop-arg
invariant-arguments-loop-arg l = (l.before ≡ l.arg-index) × (l.most ≡ in_order 1 (map room_of (take l.arg-index l.args)))
