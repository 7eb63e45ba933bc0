use Rattle.std.proofs.Common.{◌≡◌, Some, map, take}
use Rattle.sc_isa_image.specs.Lookups.{value_of}
use Rattle.sc_link.specs.Entries.{base_of}
use Rattle.sc_link.specs.Linked.{base_value}
use Rattle.sc_link.proofs.relocating.bases_of.Given as goal

abbrev pub invariant-loop-symbol : goal.invariant-loop-symbol
invariant-loop-symbol l = l.bases.items ≡ map (λ s. base_value (value_of l.image) (base_of l.entry (Some s))) (take l.symbol-index l.symbols)
