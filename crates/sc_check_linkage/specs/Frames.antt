-- Yardstick: to be compared with what it restates (docs/TRUST.md).
-- The frame of a function: where its objects stand, and what it costs.
use Rattle.std.specs.Prelude.{ℕ, ◌+◌, ◌-◌, ◌*◌, ◌/◌, nat_le, if◌then◌else◌, List, [], ◌∷◌, sum_by, Ok}
use Rattle.sc_core.specs.declared.module.Auto.{Auto}
use Rattle.sc_types.specs.Frames.{frame_cost, slot_bytes}
use Rattle.sc_check_declare.specs.declared.failure.Reason.TheVariants as r
use Rattle.sc_check_declare.specs.Outcomes.{Outcome, refuse}
use Rattle.sc_check_declare.specs.Qualifiers.{is_constant}
use Rattle.sc_check_linkage.specs.declared.frame.Local.{Local}

abbrev pub block_bytes : List Local → ℕ
block_bytes = sum_by (λ x. slot_bytes x.size)

-- the bytes of all parameters and automatic objects
abbrev pub slots : List (List Local) → ℕ
slots = sum_by block_bytes

abbrev pub largest : ℕ
largest = 16777216

-- the bytes of a frame whose expressions have at most this room and calls at most so many arguments
abbrev pub cost : ℕ → ℕ → ℕ → ℕ → Outcome ℕ
cost line bytes room args = if nat_le (frame_cost bytes room args) largest then Ok (frame_cost bytes room args) else refuse r.Frame line

-- below the slots stand the arguments past the eighth of calls, and the temporaries
abbrev pub slots_begin : ℕ → ℕ → ℕ
slots_begin room args = 4 * (args - 8) + 4 * room

abbrev pub placed : ℕ → Local → Auto
placed at x = record { name = x.name; of = x.of; slot = record { offset = at; size = x.size; constant = is_constant x.of } }

-- the objects of a block stand one behind another in the order of their declarations, blocks in the order of the text
abbrev pub block_from : ℕ → List Local → List Auto
block_from at [] = []
block_from at (x ∷ xs) = placed at x ∷ block_from (at + slot_bytes x.size) xs

abbrev pub blocks_from : ℕ → List (List Local) → List (List Auto)
blocks_from at [] = []
blocks_from at (b ∷ bs) = block_from at b ∷ blocks_from (at + block_bytes b) bs
