use Rattle.std.proofs.Common.{◌≡◌, ℕ, Option, flat_map, take}
use Rattle.sc_base.specs.declared.key.Key.{Key}
use Rattle.sc_isa_image.specs.Lookups.{value_of}
use Rattle.sc_link.specs.Entries.{fixes_of}
use Rattle.sc_link.specs.Steps.{Relocates}
use Rattle.sc_incr.proofs.patching.relocate_all.Given as goal

abbrev pub invariant-loop-reloc : goal.invariant-loop-reloc
invariant-loop-reloc l = (value : Key → Option ℕ) → ((key : Key) → value_of l.initial.image key ≡ value key) → Relocates value (flat_map (fixes_of l.entry) (take l.reloc-index l.reloc-items)) l.initial.image l.image
