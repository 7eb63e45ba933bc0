use Rattle.std.proofs.Common.{◌≡◌, take}
use Rattle.sc_incr.specs.Uses.{users_from}
use Rattle.sc_incr.proofs.users.users_in.Given as goal

abbrev pub invariant-loop-placed : goal.invariant-loop-placed
invariant-loop-placed l = l.users.items ≡ users_from 0 (take l.placed l.entries) l.key
