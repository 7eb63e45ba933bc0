use Rattle.std.proofs.Common.{◌≡◌, ◌+◌, drop, length}
use Rattle.std.specs.Str.{bytes_eq}
use Rattle.sc_core_formed.specs.Names.{are_new, distinct}
use Rattle.sc_core_formed.specs.Contents.{literal_births}
use Rattle.sc_core_formed.proofs.contents.literals_born.Given as goal

-- what is to come decides
abbrev pub invariant-loop-what : goal.invariant-loop-what
invariant-loop-what l =
    (are_new bytes_eq l.texts.keys (literal_births (drop l.what-index l.births)) ≡ distinct bytes_eq (literal_births l.births))
    × (length l.texts.keys + length (literal_births (drop l.what-index l.births)) ≡ length (literal_births l.births))
