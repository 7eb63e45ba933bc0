use Rattle.std.proofs.Common.{◌≡◌, ◌≤◌, ◌+◌, ◌*◌, drop, length}
use Rattle.sc_types.specs.Compatibility.{by_members, by_value, same_members}
use Rattle.sc_types.proofs.compare.+structures.Given as goal

abbrev pub decreases-structures : goal.decreases-structures
decreases-structures l = 6 * l.levels

abbrev pub decreases-step : goal.decreases-step
decreases-step l = 6 * l.left + 5

abbrev pub decreases-definitions : goal.decreases-definitions
decreases-definitions l = 6 * l.left + 4

abbrev pub decreases-inside : goal.decreases-inside
decreases-inside l = 6 * l.left + 3

abbrev pub decreases-members : goal.decreases-members
decreases-members l = 6 * l.left + 2

abbrev pub decreases-member : goal.decreases-member
decreases-member l = 6 * l.left + 1

-- the two structures here decide as those at the start
abbrev pub invariant-structures-inward : goal.invariant-structures-inward
invariant-structures-inward l =
    (by_members l.left l.s l.t l.i l.j ≡ by_members l.fn.levels l.s l.t l.fn.i l.fn.j) × (l.left ≤ l.fn.levels)

abbrev pub decreases-structures-inward : goal.decreases-structures-inward
decreases-structures-inward l = l.left

abbrev pub invariant-members-loop-k : goal.invariant-members-loop-k
invariant-members-loop-k l =
    (same_members (by_value l.left l.s l.t) (drop l.k l.ms) (drop l.k l.ns) ≡ same_members (by_value l.left l.s l.t) l.ms l.ns)
    × (length l.ms ≡ length l.ns)
