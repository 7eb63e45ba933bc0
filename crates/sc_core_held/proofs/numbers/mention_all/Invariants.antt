use Rattle.std.proofs.Common.{◌≡◌, ◌≤◌, drop, take, length}
use Rattle.sc_core_held.specs.Numbers as spec
use Rattle.sc_core_held.proofs.numbers.mention_all.Given as goal

-- what is to come decides, and the keys that were there stay in front
abbrev pub invariant-loop-d : goal.invariant-loop-d
invariant-loop-d l =
    (spec.mentioned l.keys.keys (drop l.d-index l.declared) ≡ spec.mentioned l.fn.keys.keys l.declared)
    × (take (length l.fn.keys.keys) l.keys.keys ≡ l.fn.keys.keys)
    × (length l.fn.keys.keys ≤ length l.keys.keys)
