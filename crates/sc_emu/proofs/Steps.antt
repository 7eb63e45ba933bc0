-- A step whose word was read as an instruction.
use Rattle.std.proofs.Common.{◌≡◌, ◌≢◌, ℕ, ◌%◌, ◌==◌, true, false, refl, sym, ap, ◌∙◌, subst, Option, None, Some}
use Rattle.std.proofs.lemmas.Bool.{ne_eqb}
use Rattle.std.specs.Option.{option_map}
use Rattle.sc_isa.specs.declared.instruction.Instr.{Instr}
use Rattle.sc_isa.specs.Reading.{instr_of}
use Rattle.sc_emu.specs.declared.outcome.Step.{Step}
use Rattle.sc_emu.specs.Machine.{State, Outcome, Gives, IsStore, fetched, fetches, obeys, rv_step}

by-word : (w : Option ℕ) (s : State) → fetches w s ≡ obeys (option_map instr_of w) s
by-word None s = refl
by-word (Some w) s = refl

pub carried_out : (word : ℕ → Option ℕ) (s new : State) (answer : Step) (r : Option (Option Instr)) → s.registers.pc ≢ 0x0000f000 → s.registers.pc % 4 ≡ 0 → r ≡ option_map instr_of (word s.registers.pc) → Gives (obeys r s) (IsStore r) s new answer → Gives (rv_step word s) (IsStore (fetched word s)) s new answer
carried_out word s new answer r inside aligned read given =
    let first : (s.registers.pc == 0x0000f000) ≡ false = ne_eqb s.registers.pc 0x0000f000 inside in
    let second : (s.registers.pc % 4 == 0) ≡ true = rw aligned refl in
    let is : rv_step word s ≡ obeys r s = rw first (rw second (by-word (word s.registers.pc) s ∙ ap (λ q. obeys q s) (sym read))) in
    subst (λ (o : Outcome). Gives o (IsStore (fetched word s)) s new answer) (sym is)
    (subst (λ (q : Option (Option Instr)). Gives (obeys r s) (IsStore q) s new answer) read given)
