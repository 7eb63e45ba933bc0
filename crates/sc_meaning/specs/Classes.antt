-- Yardstick: to be compared with what it restates (docs/TRUST.md).
-- The classes of the heap's blocks.
use Rattle.std.specs.Prelude.{ℕ, zero, suc, ◌+◌, ◌*◌, ◌^◌, nat_le, if◌then◌else◌}

-- the class of a request of n bytes is the least k whose blocks, of 16 * 2 ^ k bytes, have at least n + 1
abbrev pub block_size : ℕ → ℕ
block_size k = 16 * 2 ^ k

abbrev pub class_from : ℕ → ℕ → ℕ → ℕ
class_from zero k n = k
class_from (suc more) k n = if nat_le (n + 1) (block_size k) then k else class_from more (k + 1) n

abbrev pub class_of : ℕ → ℕ
class_of n = class_from 29 0 n
