-- Yardstick: to be compared with what it restates (docs/TRUST.md).
-- Numbers of notes, which stay at the end of 64 bits.
use Rattle.std.specs.Prelude.{ℕ, ◌+◌, ◌-◌, ◌^◌, Bool, List, count_by, if◌then◌else◌, min}
use Rattle.sc_base.specs.declared.note.Note.{Note}

abbrev pub within_64_bits : ℕ → ℕ
within_64_bits n = min n (2 ^ 64 - 1)

-- how many notes of a list pass a test
abbrev pub number_of : (Note → Bool) → List Note → ℕ
number_of test notes = within_64_bits (count_by test notes)

-- a number with one more, where the next note passes the test
abbrev pub one_more_if : Bool → ℕ → ℕ
one_more_if passes n = if passes then within_64_bits (n + 1) else n
