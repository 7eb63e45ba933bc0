use Rattle.std.proofs.Common.{◌≡◌, ◌++◌, filter, not, take}
use Rattle.sc_incr.specs.Parts.{is_object_of}
use Rattle.sc_incr.proofs.parts.add_stale.Given as goal

abbrev pub invariant-loop-key : goal.invariant-loop-key
invariant-loop-key l = l.keys.items ≡ l.initial.keys.items ++ filter (λ k. not (is_object_of l.objects k)) (take l.key-index l.stale)
