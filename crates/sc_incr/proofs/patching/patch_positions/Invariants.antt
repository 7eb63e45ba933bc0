use Rattle.std.proofs.Common.{ℕ, Option, flat_map, take}
use Rattle.sc_base.specs.declared.key.Key.{Key}
use Rattle.sc_link.specs.Steps.{Relocates}
use Rattle.sc_incr.specs.Parts.{AllAddTo, fixes_at_position}
use Rattle.sc_incr.proofs.patching.patch_positions.Given as goal

abbrev pub invariant-loop-n : goal.invariant-loop-n
invariant-loop-n l = (value : Key → Option ℕ) → AllAddTo value l.entry l.base l.positions → Relocates value (flat_map (fixes_at_position l.entry) (take l.n l.positions)) l.initial.image l.image
