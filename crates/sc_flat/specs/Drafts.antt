-- Inside: plumbing, a representation, an invariant or a promise beside the claim (docs/TRUST.md).
-- What becomes of a list as it is written.
use Rattle.std.specs.Prelude.{ℕ, ◌+◌, [], ◌∷◌, ◌++◌, length, Some, None, slice_set}
use Rattle.sc_flat.specs.declared.instruction.Instruction.{Instruction}
use Rattle.sc_flat.specs.declared.instruction.Operation.TheVariants.{Pass}
use Rattle.sc_flat.specs.Instructions.{later}
use Rattle.sc_flat.specs.Lists.{Draft}

abbrev pub snoc : Draft → Instruction → Draft
snoc d x = record { code = d.code ++ x ∷ []; places = d.places; steps = 0; work = 0 }

abbrev pub pushed : Draft → Instruction → Draft
pushed d x = snoc d (later d.work x)

abbrev pub passed : Draft → Draft
passed d = snoc d (record { work = d.work; operation = Pass; label = None })

abbrev pub slid : Draft → ℕ → Draft
slid d n = record d { steps = d.steps + 1; work = d.work + n }

abbrev pub labelled : Draft → Draft
labelled d = record d { places = d.places ++ None ∷ [] }

abbrev pub marked : Draft → ℕ → Draft
marked d l = record d { places = slice_set d.places l (Some (length d.code)) }
