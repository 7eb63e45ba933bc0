use Rattle.std.proofs.Common.{◌≡◌, ◌≢◌, ℕ, ◌<◌, Some}
use Rattle.std.specs.Prelude.{nat_eq, slice_index}
use Rattle.std.specs.HashMap.{get}
use Rattle.sc_isa_image.specs.Literals.{literal_of}
use Rattle.sc_isa_image.proofs.literals.search.Given as goal

abbrev pub invariant-loop-at : goal.invariant-loop-at
invariant-loop-at l = (k p : ℕ) → k < l.at-index → slice_index l.others k ≡ p → get nat_eq l.places p ≢ Some (literal_of l.«module» l.bytes)
