use Rattle.std.proofs.Common.{◌≡◌, map, take, drop}
use Rattle.sc_core_formed.specs.Names.{key_eq, are_new, distinct}
use Rattle.sc_core_formed.proofs.names.declared_keys.Given as goal

-- what is there are the keys that were seen, and what is to come decides
abbrev pub invariant-loop-d : goal.invariant-loop-d
invariant-loop-d l =
    (l.keys.keys ≡ map (λ d. d.key) (take l.d-index l.declared))
    × (are_new key_eq l.keys.keys (map (λ d. d.key) (drop l.d-index l.declared)) ≡ distinct key_eq (map (λ d. d.key) l.declared))
