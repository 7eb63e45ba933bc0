-- Yardstick: to be compared with what it restates (docs/TRUST.md).
-- One instruction over the world of a run: the machine's step up to its access of memory, and the access. A load gives the word that memory
-- has there. A store writes the word into the live object that has the byte there, or to memory beside all objects.
use Rattle.std.specs.Prelude.{◌≡◌, ⊤, ℕ, ◌+◌, ◌<◌, IsSome, Option, Some, None}
use Rattle.sc_base.specs.declared.memory.Word.{Word}
use Rattle.sc_emu.specs.Beginning.{Begins, IsTakeable}
use Rattle.sc_emu.specs.Machine.{rv_step, state_of}
use Rattle.sc_emu.specs.Operations.{load_size, loaded, sum}
use Rattle.sc_emu.specs.Registers.{Registers, with_word}
use Rattle.sc_emu.specs.declared.beginning.Need.{Need}
use Rattle.sc_emu.specs.declared.beginning.Need.TheVariants.{Done, Load, Store}
use Rattle.sc_emu.specs.declared.outcome.Crash.{Crash}
use Rattle.sc_emu.specs.declared.outcome.Crash.TheVariants.{Outside}
use Rattle.sc_emu.specs.declared.outcome.Step.{Step}
use Rattle.sc_emu.specs.declared.outcome.Step.TheVariants as step
use Rattle.sc_isa_image.specs.declared.image.Image.{Image}
use Rattle.sc_isa_image.specs.Lookups.{word_at}
use Rattle.sc_mem.specs.Flat.{Flat}
use Rattle.sc_meaning.specs.World.{World}
use Rattle.sc_services.specs.Memory.{read_at}
use Rattle.sc_services.specs.Writing.{StoresAt}
use Rattle.sc_mixed.specs.declared.execute.Went.{Went}
use Rattle.sc_mixed.specs.declared.execute.Went.TheVariants.{On, Asks, Returned, Stopped, NoRoom}

abbrev pub told : Step → Went
told step.Went = On
told (step.Service n) = Asks n
told step.AtReturn = Returned
told (step.Stopped crash) = Stopped crash
told step.NoMemory = NoRoom

-- a register gets the word that was found; where none can be, the instruction has no next state
abbrev pub Loads : Went → Option Word → (Word → Registers) → Registers → Registers → World → World → Type 0
Loads On found with_loaded r s w v = ((x : Word) × (found ≡ Some x) × (s ≡ with_loaded x)) × (v ≡ w)
Loads (Stopped crash) found with_loaded r s w v = (crash ≡ Outside) × (found ≡ None) × (s ≡ r) × (v ≡ w)
Loads (Asks n) found with_loaded r s w v = ⊥
Loads Returned found with_loaded r s w v = ⊥
Loads NoRoom found with_loaded r s w v = ⊥

-- bytes of a word are stored at an address; where none of that size can be read, the instruction has no next state
abbrev pub Stores : Went → ℕ → ℕ → Word → Registers → Registers → World → World → Type 0
Stores On at size word r s w v = (s ≡ record { pc = sum r.pc 4; words = r.words }) × IsSome (read_at w at size) × StoresAt at size word w v
Stores (Stopped crash) at size word r s w v = (crash ≡ Outside) × (read_at w at size ≡ None) × (s ≡ r) × (v ≡ w)
Stores NoRoom at size word r s w v = ⊤
Stores (Asks n) at size word r s w v = ⊥
Stores Returned at size word r s w v = ⊥

-- what is left of a step behind its beginning
abbrev pub EndsSo : Need → Registers → World → Went → Registers → World → Type 0
EndsSo (Done step) r w went s v = (told step ≡ went) × (s ≡ r) × (v ≡ w)
EndsSo (Load op rd at) r w went s v = Loads went (read_at w at (load_size op)) (λ x. record { pc = sum r.pc 4; words = with_word r.words rd (loaded op x) }) r s w v
EndsSo (Store size at word) r w went s v = Stores went at size word r s w v

-- The instruction at the next address of an image is carried out: its step is the machine's, whatever memory holds. A store has one of the three sizes,
-- so that no other store is like it.
pub record Instruction (i : Image) (r : Registers) (w : World) (went : Went) (s : Registers) (v : World) : Type 0 where
  pub need : Need
  pub middle : Registers
  pub takeable : IsTakeable need
  pub begins : (memory : Flat) → Begins (rv_step (word_at i) (state_of r memory)) r memory middle need
  pub ends : EndsSo need middle w went s v

-- so many instructions, behind each of which another is next
pub data Ran (i : Image) : ℕ → Registers → World → Registers → World → Type 0 where
  ran_none : (r : Registers) (w : World) → Ran i 0 r w r w
  ran_further : (k : ℕ) (r s q : Registers) (w v u : World) → Ran i k r w s v → Instruction i s v On q u → Ran i (k + 1) r w q u

-- so many at most: all of them go on; or one does not, or is the last that is looked at
pub data RanUpto (i : Image) (most : ℕ) (r : Registers) (w : World) (count : ℕ) (went : Went) (s : Registers) (v : World) : Type 0 where
  all_went : count ≡ most → went ≡ On → Ran i most r w s v → RanUpto i most r w count went s v
  one_last : (k : ℕ) (q : Registers) (u : World) → count ≡ k + 1 → k < most → Ran i k r w q u → Instruction i q u went s v → RanUpto i most r w count went s v
