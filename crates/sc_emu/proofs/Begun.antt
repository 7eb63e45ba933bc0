-- A step before its access of memory, whose word was read as an instruction.
use Rattle.std.proofs.Common.{◌≡◌, ◌≢◌, ℕ, ◌%◌, ◌==◌, true, false, refl, sym, ap, ◌∙◌, subst, Option, None, Some}
use Rattle.std.proofs.lemmas.Bool.{ne_eqb}
use Rattle.std.specs.Option.{option_map}
use Rattle.sc_isa.specs.declared.instruction.Instr.{Instr}
use Rattle.sc_isa.specs.Reading.{instr_of}
use Rattle.sc_mem.specs.Flat.{Flat}
use Rattle.sc_emu.specs.Registers.{Registers}
use Rattle.sc_emu.specs.declared.beginning.Need.{Need}
use Rattle.sc_emu.specs.Beginning.{Begins}
use Rattle.sc_emu.specs.Machine.{Outcome, fetches, obeys, rv_step, state_of, State}

by-word : (w : Option ℕ) (s : State) → fetches w s ≡ obeys (option_map instr_of w) s
by-word None s = refl
by-word (Some w) s = refl

pub begun : (word : ℕ → Option ℕ) (registers new : Registers) (need : Need) (r : Option (Option Instr)) → registers.pc ≢ 0x0000f000 → registers.pc % 4 ≡ 0 → r ≡ option_map instr_of (word registers.pc) → ((memory : Flat) → Begins (obeys r (state_of registers memory)) registers memory new need) → (memory : Flat) → Begins (rv_step word (state_of registers memory)) registers memory new need
begun word registers new need r inside aligned read given memory =
    let s : State = state_of registers memory in
    let first : (registers.pc == 0x0000f000) ≡ false = ne_eqb registers.pc 0x0000f000 inside in
    let second : (registers.pc % 4 == 0) ≡ true = rw aligned refl in
    let is : rv_step word s ≡ obeys r s = rw first (rw second (by-word (word registers.pc) s ∙ ap (λ q. obeys q s) (sym read))) in
    subst (λ (o : Outcome). Begins o registers memory new need) (sym is) (given memory)
