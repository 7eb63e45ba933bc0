-- Yardstick: to be compared with what it restates (docs/TRUST.md).
-- One step of the machine (RISC-V unprivileged manual, RV32I and M): what an instruction makes of the registers and
-- of memory.
use Rattle.std.specs.Prelude.{◌≡◌, ⊤, ℕ, ◌*◌, ◌/◌, ◌%◌, ◌^◌, ◌==◌, if◌then◌else◌, List, Option, Some, None, ℤ}
use Rattle.std.specs.Option.{is_some, option_map}
use Rattle.sc_base.specs.declared.memory.Word.{Word}
use Rattle.sc_isa.specs.declared.instruction.Instr.{Instr}
use Rattle.sc_isa.specs.declared.instruction.Instr.TheVariants.{Lui, Auipc, Jal, Jalr, Branch, Load, Store, Imm, Reg, Ecall, Fence}
use Rattle.sc_isa.specs.declared.instruction.LoadOp.{LoadOp}
use Rattle.sc_isa.specs.Reading.{instr_of}
use Rattle.sc_mem.specs.Flat.{Flat, aligned_place, put, raw_read}
use Rattle.sc_emu.specs.declared.outcome.Crash.{Crash}
use Rattle.sc_emu.specs.declared.outcome.Crash.TheVariants.{BadFetch, Misfetch, Illegal, Misaligned, Outside}
use Rattle.sc_emu.specs.declared.outcome.Done.{Done}
use Rattle.sc_emu.specs.declared.outcome.Done.TheVariants.{Finished, Asked, NoWord, NoInstruction, Unaligned, NoArea, NoRoom}
use Rattle.sc_emu.specs.declared.outcome.Step.{Step}
use Rattle.sc_emu.specs.declared.outcome.Step.TheVariants.{Went, Service, AtReturn, Stopped, NoMemory}
use Rattle.sc_emu.specs.Operations.{bits_of, is_taken, load_size, loaded, of_two, plain, store_size, sum, with_constant}
use Rattle.sc_emu.specs.Registers.{Registers, register, with_word}

pub record State : Type 0 where
  pub registers : Registers
  pub memory : Flat

abbrev pub state_of : Registers → Flat → State
state_of registers memory = record { registers = registers; memory = memory }

-- the next state; the next state, where a service is asked for; the place to which calls from outside return; or no
-- next state
pub data Outcome : Type 0 where
  Goes : State → Outcome
  Asks : State → Outcome
  Returns : Outcome
  Stops : Crash → Outcome

-- the state with these registers, and with the next instruction at an address
abbrev pub with_registers : ℕ → List Word → State → State
with_registers pc words s = record { registers = record { pc = pc; words = words }; memory = s.memory }

abbrev pub at : ℕ → State → State
at pc s = with_registers pc s.registers.words s

abbrev pub next_of : State → ℕ
next_of s = sum s.registers.pc 4

-- a register gets a word, and the next instruction is at an address
abbrev pub writes : ℕ → Word → ℕ → State → Outcome
writes rd w pc s = Goes (with_registers pc (with_word s.registers.words rd w) s)

-- the address of a load or a store, and the target of a jump by a register, whose bit 0 is cleared
abbrev pub address : State → ℕ → ℤ → ℕ
address s base offset = sum (register s.registers base).bits (bits_of offset)

abbrev pub jump_target : State → ℕ → ℤ → ℕ
jump_target s base offset = address s base offset / 2 * 2

-- a load or store at a multiple of its size
abbrev pub aligned : ℕ → ℕ → Outcome → Outcome
aligned place size go = if place % size == 0 then go else Stops Misaligned

abbrev pub loads : LoadOp → ℕ → Option Word → State → Outcome
loads op rd None s = Stops Outside
loads op rd (Some w) s = writes rd (loaded op w) (next_of s) s

abbrev pub stores : Option ℕ → Flat → State → Outcome
stores place memory s =
    if is_some place then Goes (at (next_of s) (state_of s.registers memory)) else Stops Outside

abbrev pub act : Instr → State → Outcome
act (Lui rd upper) s = writes rd (plain (upper * 2 ^ 12)) (next_of s) s
act (Auipc rd upper) s = writes rd (plain (sum s.registers.pc (upper * 2 ^ 12))) (next_of s) s
act (Jal rd offset) s = writes rd (plain (next_of s)) (sum s.registers.pc (bits_of offset)) s
act (Jalr rd base offset) s = writes rd (plain (next_of s)) (jump_target s base offset) s
act (Branch op a b offset) s =
    let taken = is_taken op (register s.registers a).bits (register s.registers b).bits in
    Goes (at (if taken then sum s.registers.pc (bits_of offset) else next_of s) s)
act (Load op rd base offset) s =
    let place = address s base offset in
    aligned place (load_size op) (loads op rd (raw_read s.memory place (load_size op)) s)
act (Store op value base offset) s =
    let place = address s base offset in
    let size = store_size op in
    let stored = put s.memory place size (register s.registers value) in
    aligned place size (stores (aligned_place s.memory place size) stored s)
act (Imm op rd a constant) s = writes rd (with_constant op (register s.registers a) (bits_of constant)) (next_of s) s
act (Reg op rd a b) s = writes rd (of_two op (register s.registers a) (register s.registers b)) (next_of s) s
act Ecall s = Asks (at (next_of s) s)
act Fence s = Goes (at (next_of s) s)

-- the word that was fetched is an instruction, or none
abbrev pub acts : Option Instr → State → Outcome
acts None s = Stops Illegal
acts (Some i) s = act i s

abbrev pub fetches : Option ℕ → State → Outcome
fetches None s = Stops BadFetch
fetches (Some w) s = acts (instr_of w) s

-- the same of a word that was read as an instruction when it was fetched
abbrev pub obeys : Option (Option Instr) → State → Outcome
obeys None s = Stops BadFetch
obeys (Some r) s = acts r s

-- the address to which calls from outside return; no text and no stub is there
abbrev pub return_address : ℕ
return_address = 0x0000f000

-- one step, where `word` gives the image's word at an address
abbrev pub rv_step : (ℕ → Option ℕ) → State → Outcome
rv_step word s =
    if s.registers.pc == return_address then Returns
    else if s.registers.pc % 4 == 0 then fetches (word s.registers.pc) s
    else Stops Misfetch

-- the instruction is a store
abbrev pub IsStore : Option (Option Instr) → Type 0
IsStore (Some (Some (Store op value base offset))) = ⊤
IsStore _ = ⊥

-- the instruction at the address of the next one, of an image with these words: `None` where there is no word
abbrev pub fetched : (ℕ → Option ℕ) → State → Option (Option Instr)
fetched word s = option_map instr_of (word s.registers.pc)

abbrev pub IsGoing : Outcome → Type 0
IsGoing (Goes s) = ⊤
IsGoing _ = ⊥

-- What an answer of the code says of an outcome. Where memory runs out, at a store that would take place, nothing is
-- changed.
abbrev pub Gives : Outcome → Type 0 → State → State → Step → Type 0
Gives outcome store old new Went = outcome ≡ Goes new
Gives outcome store old new (Service n) = (outcome ≡ Asks new) × (n ≡ (register old.registers 5).bits)
Gives outcome store old new AtReturn = (outcome ≡ Returns) × (new ≡ old)
Gives outcome store old new (Stopped crash) = (outcome ≡ Stops crash) × (new ≡ old)
Gives outcome store old new NoMemory = IsGoing outcome × store × (new ≡ old)

-- the answer of the code, by the one without the service's number and by that number
abbrev pub told : Done → ℕ → Step
told Finished n = Went
told Asked n = Service n
told NoWord n = Stopped BadFetch
told NoInstruction n = Stopped Illegal
told Unaligned n = Stopped Misaligned
told NoArea n = Stopped Outside
told NoRoom n = NoMemory
