use Rattle.std.proofs.Common.{◌≡◌, map, take}
use Rattle.sc_macro.proofs.walk.unmarked.Given as goal

abbrev pub invariant-loop-marked : goal.invariant-loop-marked
invariant-loop-marked l = l.items ≡ map (λ m. m.token) (take l.marked-index l.tokens)
