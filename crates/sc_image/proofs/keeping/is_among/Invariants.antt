use Rattle.std.proofs.Common.{◌≡◌, drop}
use Rattle.std.specs.List.{list_any}
use Rattle.sc_isa_image.specs.Lookups.{key_eq}
use Rattle.sc_image.proofs.keeping.is_among.Given as goal

abbrev pub invariant-loop-k : goal.invariant-loop-k
invariant-loop-k l = list_any (λ k. key_eq k l.key) (drop l.k-index l.keys) ≡ list_any (λ k. key_eq k l.key) l.keys
