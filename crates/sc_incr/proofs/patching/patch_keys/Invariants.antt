use Rattle.std.proofs.Common.{◌≡◌, ℕ, Option, flat_map, take}
use Rattle.sc_base.specs.declared.key.Key.{Key}
use Rattle.sc_isa_image.specs.Lookups.{value_of}
use Rattle.sc_link.specs.Steps.{Relocates}
use Rattle.sc_incr.specs.Parts.{fixes_for}
use Rattle.sc_incr.proofs.patching.patch_keys.Given as goal

abbrev pub invariant-loop-key : goal.invariant-loop-key
invariant-loop-key l = (value : Key → Option ℕ) → ((key : Key) → value_of l.initial.image key ≡ value key) → Relocates value (flat_map (fixes_for l.entries) (take l.key-index l.keys)) l.initial.image l.image
