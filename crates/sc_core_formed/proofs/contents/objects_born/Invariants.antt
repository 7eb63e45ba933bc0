use Rattle.std.proofs.Common.{◌≡◌, ◌+◌, drop, length}
use Rattle.sc_core_formed.specs.Names.{key_eq, are_new, distinct}
use Rattle.sc_core_formed.specs.Contents.{named_births}
use Rattle.sc_core_formed.proofs.contents.objects_born.Given as goal

-- what is to come decides
abbrev pub invariant-loop-what : goal.invariant-loop-what
invariant-loop-what l =
    (are_new key_eq l.keys.keys (named_births (drop l.what-index l.births)) ≡ distinct key_eq (named_births l.births))
    × (length l.keys.keys + length (named_births (drop l.what-index l.births)) ≡ length (named_births l.births))
