-- Yardstick: to be compared with what it restates (docs/TRUST.md).
-- What is told of a step before its access of memory, at any memory.
use Rattle.std.specs.Prelude.{◌≡◌, ◌<◌, ⊤}
use Rattle.sc_mem.specs.Flat.{Flat, aligned_place, put, raw_read}
use Rattle.sc_mem.specs.Words.{IsSize}
use Rattle.sc_emu.specs.declared.beginning.Need.{Need}
use Rattle.sc_emu.specs.declared.beginning.Need.TheVariants.{Done, Load, Store}
use Rattle.sc_emu.specs.Machine.{Outcome, Gives, loads, state_of, stores}
use Rattle.sc_emu.specs.Operations.{load_size}
use Rattle.sc_emu.specs.Registers.{Registers}

-- A step that is done is so at every memory, which it leaves as it is. Of one that is not, the rest is a load or a store.
abbrev pub Begins : Outcome → Registers → Flat → Registers → Need → Type 0
Begins outcome old memory new (Done step) = Gives outcome ⊥ (state_of old memory) (state_of new memory) step
Begins outcome old memory new (Load op rd at) = (outcome ≡ loads op rd (raw_read memory at (load_size op)) (state_of old memory)) × (new ≡ old)
Begins outcome old memory new (Store size at word) = (outcome ≡ stores (aligned_place memory at size) (put memory at size word) (state_of old memory)) × (new ≡ old)

-- a load is into one of the 32 registers, and a store has a size
abbrev pub IsTakeable : Need → Type 0
IsTakeable (Done step) = ⊤
IsTakeable (Load op rd at) = rd < 32
IsTakeable (Store size at word) = IsSize size
