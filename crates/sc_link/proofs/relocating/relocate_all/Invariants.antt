use Rattle.std.proofs.Common.{◌≡◌, ℕ, Option, Some, flat_map, map, take}
use Rattle.sc_base.specs.declared.key.Key.{Key}
use Rattle.sc_link.specs.Entries.{base_of, fixes_of}
use Rattle.sc_link.specs.Linked.{base_value}
use Rattle.sc_link.specs.Steps.{Relocates}
use Rattle.sc_link.proofs.relocating.relocate_all.Given as goal

abbrev pub invariant-loop-reloc : goal.invariant-loop-reloc
invariant-loop-reloc l = (value : Key → Option ℕ) → l.bases ≡ map (λ s. base_value value (base_of l.entry (Some s))) l.entry.object.symbols → Relocates value (flat_map (fixes_of l.entry) (take l.reloc-index l.reloc-items)) l.initial.image l.image
