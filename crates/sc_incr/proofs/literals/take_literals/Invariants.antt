use Rattle.std.proofs.Common.{flat_map, map, take}
use Rattle.std.specs.Prelude.{option_to_list}
use Rattle.sc_link.specs.Linked.{literal_of}
use Rattle.sc_link.specs.Symbols as symbols
use Rattle.sc_incr.specs.Literals.{TakesLiterals}
use Rattle.sc_incr.proofs.literals.take_literals.Given as goal

abbrev pub invariant-loop-symbol : goal.invariant-loop-symbol
invariant-loop-symbol l = TakesLiterals l.rest (map literal_of (flat_map (λ s. option_to_list (symbols.literal_of l.entry s)) (take l.symbol-index l.symbol-items))) l.initial.image l.image
