use Rattle.std.proofs.Common.{◌≡◌, map, take, drop}
use Rattle.std.specs.Str.{bytes_eq}
use Rattle.sc_core_formed.specs.Names.{are_new, distinct}
use Rattle.sc_core_formed.proofs.names.function_names.Given as goal

-- what is there are the keys that were seen, and what is to come decides
abbrev pub invariant-loop-f : goal.invariant-loop-f
invariant-loop-f l =
    (l.names.keys ≡ map (λ f. f.name) (take l.f-index l.funs))
    × (are_new bytes_eq l.names.keys (map (λ f. f.name) (drop l.f-index l.funs)) ≡ distinct bytes_eq (map (λ f. f.name) l.funs))
