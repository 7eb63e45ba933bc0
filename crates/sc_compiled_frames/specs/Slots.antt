-- Inside: plumbing, a representation, an invariant or a promise beside the claim (docs/TRUST.md).
-- The slots of a function, block by block.
use Rattle.std.specs.Prelude.{ℕ, List, [], map, slice_index_or}
use Rattle.sc_program.specs.declared.frame.Slot.{Slot}
use Rattle.sc_core.specs.declared.module.Auto.{Auto}
use Rattle.sc_core.specs.declared.module.Fun.{Fun}

abbrev pub slots_in : List Auto → List Slot
slots_in xs = map (λ x. x.slot) xs

abbrev pub slots_of : Fun → ℕ → List Slot
slots_of f b = slots_in (slice_index_or f.blocks b [])
