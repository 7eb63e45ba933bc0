-- Yardstick: to be compared with what it restates (docs/TRUST.md).
-- The registers and the address of the next instruction.
use Rattle.std.specs.Prelude.{◌≡◌, ℕ, ◌==◌, if◌then◌else◌, List, length, slice_get, slice_index_or, slice_set, Some}
use Rattle.sc_base.specs.declared.memory.Word.{Word}
use Rattle.sc_emu.specs.Operations.{plain}

pub record Registers : Type 0 where
  pub pc : ℕ
  pub words : List Word

-- there are 32 registers, and register 0 is zero without a tag
pub record AreRegisters (words : List Word) : Type 0 where
  pub count : length words ≡ 32
  pub zero : slice_get words 0 ≡ Some (plain 0)

-- what a register holds
abbrev pub register : Registers → ℕ → Word
register r n = slice_index_or r.words n (plain 0)

-- the registers with another word in one of them; register 0 stays as it is
abbrev pub with_word : List Word → ℕ → Word → List Word
with_word words n w = if n == 0 then words else slice_set words n w
