-- Yardstick: to be compared with what it restates (docs/TRUST.md).
-- How much stack a function's frame takes.
use Rattle.std.specs.Prelude.{ℕ, ◌+◌, ◌-◌, ◌*◌, ◌/◌}

-- two saved registers, the slots, a temporary for each value kept, and the arguments past the eighth
abbrev pub frame_bytes : ℕ → ℕ → ℕ → ℕ
frame_bytes slots room args = 8 + slots + 4 * room + 4 * (args - 8)

-- the next multiple of 16
abbrev pub frame_cost : ℕ → ℕ → ℕ → ℕ
frame_cost slots room args = (frame_bytes slots room args + 15) / 16 * 16

-- the least multiple of 4 that is greater than a size
abbrev pub slot_bytes : ℕ → ℕ
slot_bytes size = (size / 4 + 1) * 4
