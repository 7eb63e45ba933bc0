use Rattle.std.proofs.Common.{◌≡◌, map, take, drop}
use Rattle.sc_core_formed.specs.Names.{key_eq, are_new, distinct}
use Rattle.sc_core_formed.proofs.names.object_keys.Given as goal

-- what is there are the keys that were seen, and what is to come decides
abbrev pub invariant-loop-x : goal.invariant-loop-x
invariant-loop-x l =
    (l.keys.keys ≡ map (λ x. x.key) (take l.x-index l.objects))
    × (are_new key_eq l.keys.keys (map (λ x. x.key) (drop l.x-index l.objects)) ≡ distinct key_eq (map (λ x. x.key) l.objects))
