-- Yardstick: to be compared with what it restates (docs/TRUST.md).
-- What a note makes of the registers, the address of the next instruction and memory.
use Rattle.std.specs.Prelude.{ℕ, ◌==◌, if◌then◌else◌, replicate}
use Rattle.sc_base.specs.declared.memory.Word.{Word}
use Rattle.sc_base.specs.declared.note.Note.{Note}
use Rattle.sc_base.specs.declared.note.Note.TheVariants.{Start, Call, Back, Enter, Leave, At, Lib, Exec, Put, Birth, Death, Copy, SetReg, Tag}
use Rattle.sc_isa.specs.Reading.{instr_of}
use Rattle.sc_mem.specs.Flat as memory
use Rattle.sc_emu.specs.Operations.{plain}
use Rattle.sc_emu.specs.Registers.{with_word}
use Rattle.sc_emu.specs.Machine.{Outcome, State, Goes, Asks, Returns, Stops, acts, at, return_address, state_of, with_registers}

-- A run begins: nothing lives, no cell is written, each register is 0 but the stack pointer, which is at the stack's
-- end, and the next address is the one to which calls from outside return.
abbrev pub begun : ℕ → ℕ → State
begun stack heap =
    state_of (record { pc = return_address; words = with_word (replicate 32 (plain 0)) 2 (plain 0x20000000) }) (memory.fresh stack heap)

-- the state after an instruction; one that cannot be carried out changes nothing
abbrev pub carried_out : Outcome → State → State
carried_out (Goes next) s = next
carried_out (Asks next) s = next
carried_out Returns s = s
carried_out (Stops crash) s = s

-- register r gets a word; 32 is the address of the next instruction
abbrev pub with_register : ℕ → Word → State → State
with_register r w s = if r == 32 then at w.bits s else with_registers s.registers.pc (with_word s.registers.words r w) s

-- what a note makes of memory alone
abbrev pub on_memory : Note → State → State
on_memory n s = state_of s.registers (memory.apply s.memory n)

abbrev pub apply : State → Note → State
apply s (Start stack heap) = begun stack heap
apply s (Call fun) = s
apply s (Back fun) = s
apply s (Enter fun form) = s
apply s (Leave fun) = s
apply s (At fun line) = s
apply s (Lib fun) = s
apply s (Exec pc word) = carried_out (acts (instr_of word) s) s
apply s (Put place size word) = on_memory (Put place size word) s
apply s (Birth id size kind base) = on_memory (Birth id size kind base) s
apply s (Death id) = on_memory (Death id) s
apply s (Copy to from size) = on_memory (Copy to from size) s
apply s (SetReg r word) = with_register r word s
apply s (Tag word) = with_register 10 word s
