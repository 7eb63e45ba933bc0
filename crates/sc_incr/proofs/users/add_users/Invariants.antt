use Rattle.std.proofs.Common.{◌≡◌, ◌++◌, map, take}
use Rattle.sc_incr.specs.Uses.{use_at}
use Rattle.sc_incr.proofs.users.add_users.Given as goal

abbrev pub invariant-loop-reloc : goal.invariant-loop-reloc
invariant-loop-reloc l = l.users.items ≡ l.initial.users.items ++ map (use_at l.placed) (take l.reloc-index l.positions)
