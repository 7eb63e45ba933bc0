use Rattle.std.proofs.Common.{◌≡◌, drop}
use Rattle.sc_types.specs.Layouts.{layout_in, members_from, beginning}
use Rattle.sc_types.specs.Tables.{IsSmall}
use Rattle.sc_types.proofs.layout.end_of.Given as goal

-- the members from here on end where all end
abbrev pub invariant-loop-member : goal.invariant-loop-member
invariant-loop-member l =
    (members_from l.is_union (layout_in l.s) (drop l.member-index l.members) l.end ≡ members_from l.is_union (layout_in l.s) l.members beginning)
    × IsSmall l.end
