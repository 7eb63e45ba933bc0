use Rattle.std.proofs.Common.{◌≡◌, take, drop}
use Rattle.sc_core_labels.specs.Targets as spec
use Rattle.sc_core_labels.proofs.targets.indexed.Given as goal

-- the index has those that were seen, and what is to come decides
abbrev pub invariant-loop-target : goal.invariant-loop-target
invariant-loop-target l =
    (l.blocks.entries ≡ take l.target-index l.found) × (spec.are_new l.blocks.entries (drop l.target-index l.found) ≡ spec.are_distinct l.found)
