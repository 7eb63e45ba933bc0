use Rattle.std.proofs.Common.{◌≡◌, drop}
use Rattle.sc_isa_image.specs.Lookups.{key_eq}
use Rattle.sc_image.specs.Distinct.{are_new, distinct}
use Rattle.sc_image.proofs.distinct.are_keys_distinct.Given as goal

-- what is to come decides
abbrev pub invariant-loop-key : goal.invariant-loop-key
invariant-loop-key l = are_new key_eq l.seen.keys (drop l.key-index l.keys) ≡ distinct key_eq l.keys
