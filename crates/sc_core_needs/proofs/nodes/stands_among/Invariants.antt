use Rattle.std.proofs.Common.{◌≡◌, ◌≤◌, ◌<◌, ◌^◌, drop}
use Rattle.sc_core_needs.specs.Nodes.{stands_among}
use Rattle.sc_core_needs.proofs.nodes.stands_among.Given as goal

-- what the rest gives from here is what all give from the beginning
abbrev pub invariant-loop-member : goal.invariant-loop-member
invariant-loop-member l =
    (stands_among l.structs l.is_union l.qualifier l.of l.n l.end (drop l.member-index l.members) ≡ stands_among l.structs l.is_union l.qualifier l.of l.n 0 l.members)
    × (l.end < 2 ^ 63)
