use Rattle.std.proofs.Common.{◌≡◌, ℕ, Option, flat_map, take}
use Rattle.sc_base.specs.declared.key.Key.{Key}
use Rattle.sc_isa_image.specs.Lookups.{value_of}
use Rattle.sc_link.specs.Entries.{fixes_if}
use Rattle.sc_link.specs.Steps.{Relocates}
use Rattle.sc_link.proofs.relocating.relocate.Given as goal

abbrev pub invariant-loop-entry : goal.invariant-loop-entry
invariant-loop-entry l = (value : Key → Option ℕ) → ((key : Key) → value_of l.initial.image key ≡ value key) → Relocates value (flat_map fixes_if (take l.entry-index l.placed)) l.initial.image l.image
