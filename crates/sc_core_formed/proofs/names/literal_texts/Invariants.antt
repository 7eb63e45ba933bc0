use Rattle.std.proofs.Common.{◌≡◌, take, drop}
use Rattle.std.specs.Str.{bytes_eq}
use Rattle.sc_core_formed.specs.Names.{are_new, distinct}
use Rattle.sc_core_formed.proofs.names.literal_texts.Given as goal

-- what is there are the literals that were seen, and what is to come decides
abbrev pub invariant-loop-text : goal.invariant-loop-text
invariant-loop-text l = (l.texts.keys ≡ take l.text-index l.literals) × (are_new bytes_eq l.texts.keys (drop l.text-index l.literals) ≡ distinct bytes_eq l.literals)
