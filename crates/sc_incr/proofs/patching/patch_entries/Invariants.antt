use Rattle.std.proofs.Common.{◌≡◌, ℕ, Option, flat_map, take}
use Rattle.sc_base.specs.declared.key.Key.{Key}
use Rattle.sc_link.specs.Linked.{or_zero}
use Rattle.sc_link.specs.Steps.{Relocates}
use Rattle.sc_incr.specs.Uses.{fixes_naming}
use Rattle.sc_incr.proofs.patching.patch_entries.Given as goal

abbrev pub invariant-loop-entry : goal.invariant-loop-entry
invariant-loop-entry l = (value : Key → Option ℕ) → or_zero (value l.key) ≡ l.base → Relocates value (flat_map (fixes_naming l.key) (take l.entry-index l.entries)) l.initial.image l.image
