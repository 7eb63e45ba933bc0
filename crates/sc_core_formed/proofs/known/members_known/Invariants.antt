use Rattle.std.proofs.Common.{◌≡◌, drop}
use Rattle.sc_core_formed.specs.Known.{members_known}
use Rattle.sc_core_formed.proofs.known.members_known.Given as goal

-- what is to come decides
abbrev pub invariant-loop-m : goal.invariant-loop-m
invariant-loop-m l = members_known l.structs (drop l.m-index l.members) ≡ members_known l.structs l.members
