-- Yardstick: to be compared with what it restates (docs/TRUST.md).
-- Bytes inside the areas of memory are copied.
use Rattle.std.specs.Prelude.{◌≡◌, ℕ, ◌+◌, ◌-◌, ◌&&◌, ◌||◌, nat_le, Bool, true, false, List, length, IfSome}
use Rattle.sc_base.specs.declared.memory.Cell.{Cell as Stored}
use Rattle.sc_emu.specs.Registers.{Registers, register}
use Rattle.sc_meaning.specs.World.{World, Copy, pass}
use Rattle.sc_services.specs.Memory.{StandsAt, has_bytes}
use Rattle.sc_mem_store.specs.Living.{HasCells, IsLiveAt}
use Rattle.sc_interp_world.specs.Putting.{PutsAll}
use Rattle.sc_services.specs.declared.copying.Copied.{Copied}
use Rattle.sc_services.specs.declared.copying.Copied.TheVariants.{Bytes, Refused}

-- so many bytes from an address on are inside the static area of 2^20 bytes, the heap, or the stack, which ends where its first byte is used
abbrev pub is_range : ℕ → ℕ → World → Bool
is_range at n w =
    (nat_le 0x08000000 at && nat_le (at + n) 0x08100000) || (nat_le 0x10000000 at && nat_le (at + n - 0x10000000) w.heap)
    || (nat_le (0x20000000 - w.stack) at && nat_le (at + n) 0x20000000)

abbrev pub may_copy : Registers → World → Bool
may_copy r w =
    is_range (register r 10).bits (register r 12).bits w && is_range (register r 11).bits (register r 12).bits w

-- so many bytes of a live object stand from an address on
abbrev pub AreAt : World → ℕ → ℕ → ℕ → ℕ → Type 0
AreAt w id offset n at = IsLiveAt w.objects id offset × StandsAt w id offset at × (has_bytes w.objects id offset n ≡ true)

-- these are the n cells of memory from an address on
abbrev pub AreCells : World → ℕ → ℕ → List Stored → Type 0
AreCells w at n cells = IfSome w.beside.memory (λ m. (length cells ≡ n) × HasCells m.flat at cells)

-- bytes go from the live object at one address to that at another, or the same, as if by way of another place; or the cells that memory has
-- there are put one after another, as they are
pub data Copies (target source n : ℕ) (old new : World) : Type 0 where
  InObjects : (to at from off : ℕ) → AreAt old to at n target → AreAt old from off n source → new ≡ pass (Copy to at from off n) old → Copies target source n old new
  ByBytes : (cells : List Stored) → AreCells old source n cells → PutsAll target cells old new → Copies target source n old new

-- what the service makes of the world: where one of the two ranges is not inside an area nothing is done
abbrev pub CopiesBytes : Registers → World → Copied → World → Type 0
CopiesBytes r old Refused new = (may_copy r old ≡ false) × (new ≡ old)
CopiesBytes r old (Bytes n) new = (may_copy r old ≡ true) × (n ≡ (register r 12).bits) × Copies (register r 10).bits (register r 11).bits n old new
